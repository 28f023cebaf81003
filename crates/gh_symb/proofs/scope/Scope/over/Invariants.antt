use Rattle.std.proofs.Common.{take}
use Rattle.gh_symb.specs.Inside.{binding_of}
use Rattle.gh_symb.proofs.BindingLemmas.{Covers}
use Rattle.gh_symb.proofs.scope.Scope.over.Given as goal

abbrev pub invariant-loop-entry : goal.invariant-loop-entry
invariant-loop-entry l = Covers (take l.entry-index l.entry-items) (binding_of l.fn.others) l.binding
