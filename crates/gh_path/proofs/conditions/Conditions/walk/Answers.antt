use Rattle.std.proofs.Common.{sym, subst}
use Rattle.gh_ast.specs.declared.Program as whole
use Rattle.gh_ast.specs.Plain.{program_of}
use Rattle.gh_path.specs.Conditions.{conditions}
use Rattle.gh_path.specs.Counted.{KeepsCounts}
use Rattle.gh_path.proofs.conditions.Conditions.walk.Goals as goal

pub returns : goal.returns
returns c =
    let P = program_of c.args.self.now in
    let s = c.self.inside in
    let counted : KeepsCounts P s.count s.starts =
    subst (λ (proc : whole.Program). KeepsCounts (program_of proc) s.count s.starts) c.self.view_is
    c.self.invariant in
    c.new.ensures P (conditions P) counted.starts_are (sym counted.all)
