use Rattle.std.proofs.Common.{◌≡◌, ◌↔◌, ◌++◌, [], Contains, IsTrue, List, ap, subst, sym}
use Rattle.std.specs.Prelude.{option_map, unwrap_or}
use Rattle.gh_base.specs.declared.atom.Lit.{Lit}
use Rattle.gh_base.specs.Atoms.{opposite}
use Rattle.gh_check.specs.Truths.{TruthSet}
use Rattle.gh_check.proofs.TruthLemmas.{false_second}
use Rattle.gh_check.proofs.hints.Layers.is_false.Goals as goal

pub returns : goal.returns
returns c =
    let above = c.self.inside.above.now.lits in
    let whole : c.args.self.now.lits ≡ c.in-Some.below.now.lits ++ above =
    subst (λ o. c.args.self.now.lits ≡ unwrap_or (option_map (λ below. below.now.lits) o) [] ++ above) c.in-Some.is
    (ap (λ (t : TruthSet). t.lits) (sym c.self.view_is)) in
    subst (λ (ls : List Lit). IsTrue c.is_false-3.result ↔ Contains ls (opposite c.args.lit)) (sym whole)
    (false_second c.in-Some.below.now.lits above (opposite c.args.lit) c.is_false-2.result c.is_false-3.result
    c.is_false-2.ensures c.is_false-3.ensures (λ t. let f = c.if-is_false.false in absurd cc))
