use Rattle.std.proofs.Common.{Contains, take}
use Rattle.gh_base.specs.declared.atom.Lit.{Lit}
use Rattle.gh_sat.specs.Watch.{clauses_of, ListsMore}
use Rattle.gh_sat.proofs.occurrences.Occurrences.note.Given as goal

abbrev pub invariant-loop-lit : goal.invariant-loop-lit
invariant-loop-lit l = record {
  listed : (m : Lit) → Contains (take l.lit-index l.clause) m → Contains (clauses_of l.sizes l.self m) l.number;
  more : ListsMore l.initial.self l.self;
}
