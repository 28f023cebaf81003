-- Consistent literals refute no clause of equality.
use Rattle.std.proofs.Common.{List, Contains, not, ap, Option, Some, None}
use Rattle.std.specs.Prelude.{IfNone}
use Rattle.std.proofs.lemmas.List.Elements.{All-contains}
use Rattle.gh_base.specs.declared.atom.Lit.{Lit}
use Rattle.gh_base.specs.declared.sizes.Sizes.{Sizes}
use Rattle.gh_base.specs.Atoms.{opposite}
use Rattle.gh_base.specs.Meaning.{Interpretation, IsLitTrue, IsEqualityClause}
use Rattle.gh_base.proofs.UnitLemmas.{truth_of_opposite}
use Rattle.gh_cc.specs.Asserted.{IsConsistent}
use Rattle.gh_sat.specs.Theory.{IsRefutedBy}

-- no literal is true with its opposite
pub apart_truths : (m : Interpretation) (l : Lit) → IsLitTrue m l → IsLitTrue m (opposite l) → ⊥
apart_truths m l t u = let e = truth_of_opposite m l in let f = ap not t in cc

pub never_refuted : (s : Sizes) (lits : List Lit) → IsConsistent s lits → (c : List Lit) → IsEqualityClause s c
    → IsRefutedBy lits c → ⊥
never_refuted s lits k c e r =
    let t = e.follows k.0 k.1 in
    let o = All-contains (λ l. Contains lits (opposite l)) c t.1 r (t.0, t.2, t.3) in
    apart_truths k.0 t.1 t.4 (All-contains (IsLitTrue k.0) lits (opposite t.1) k.2 o)

pub none_refuted : (s : Sizes) (lits : List Lit) (o : Option (List Lit)) → IfNone o (IsConsistent s lits)
    → IfNone o ((c : List Lit) → IsEqualityClause s c → IsRefutedBy lits c → ⊥)
none_refuted s lits None k = never_refuted s lits k
none_refuted s lits (Some x) k = tt
