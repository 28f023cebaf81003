use Rattle.std.proofs.Common.{◌≡◌, ◌∙◌, sym, ap, subst, ℕ, List, [], Some, slice_get, Contains}
use Rattle.std.specs.Option.{option_map, unwrap_or, option_copied}
use Rattle.std.proofs.lemmas.Option.{IfSome_then}
use Rattle.gh_ast.proofs.Lists.{no_member}
use Rattle.gh_session.specs.declared.kept.Kept.{Kept}
use Rattle.gh_session.specs.Known.{essences}
use Rattle.gh_session.specs.Places.{known_of, knowledge, filed}
use Rattle.gh_session.specs.Views.{essence_view}
use Rattle.gh_session.proofs.Learning.{none_then, absent, is_among}
use Rattle.gh_session.proofs.session.Session.look_up.Goals as goal

pub returns-in_err-places-clause-none : goal.returns-in_err-places-clause-none
returns-in_err-places-clause-none c =
    let E = essence_view c.args.essence.now in
    let nothing =
    ap (λ o. unwrap_or (option_map (λ v. v.items) o) [])
    (sym c.get.ensures.value ∙ ap option_copied c.in_err-places.was) in
    let unknown = absent c.self.inside.kept.items c.self.inside.places E c.self.invariant
    (λ n k there at is. no_member n
    (subst (λ ns. Contains ns n) nothing
    (subst (λ q. Contains (filed c.self.inside.places q) n) (sym c.fingerprint.ensures) there))) in
    rw c.from_residual.ensures (subst (λ ks. Contains (essences (knowledge ks)) E → ⊥) c.self.view_is unknown)

pub returns-clause-right : goal.returns-clause-right
returns-clause-right c = IfSome_then c.find.result c.find.ensures.there
    (λ k there. c.self.invariant.right (known_of k.now)
    (is_among c.self.inside.kept.items k.now (subst (λ ks. Contains ks k.now) c.as_slice.ensures.value there)))

pub returns-clause-none : goal.returns-clause-none
returns-clause-none c =
    none_then c.find.result c.find.ensures.none
    (λ none there. unknown c none
    (subst (λ ks. Contains (essences (knowledge ks)) (essence_view c.args.essence.now)) (sym c.self.view_is) there))
  where
    unknown : (d : goal.After-find)
        → ((n : ℕ) (k : Kept) → Contains d.as_slice-2.result.now n → slice_get d.as_slice.result.now n ≡ Some k
        → essence_view k.essence ≡ essence_view d.args.essence.now → ⊥) →
        Contains (essences (knowledge d.self.inside.kept.items)) (essence_view d.args.essence.now) → ⊥
    unknown d none =
        let E = essence_view d.args.essence.now in
        let found =
        ap (λ o. unwrap_or (option_map (λ v. v.items) o) [])
        (sym d.get.ensures.value ∙ ap option_copied d.in_ok-places.was) in
        absent d.self.inside.kept.items d.self.inside.places E d.self.invariant
        (λ n k there at is. none n k
        (subst (λ ns. Contains ns n) (sym d.as_slice-2.ensures.value)
        (subst (λ ns. Contains ns n) found
        (subst (λ q. Contains (filed d.self.inside.places q) n) (sym d.fingerprint.ensures) there)))
        (subst (λ (ks : List Kept). slice_get ks n ≡ Some k) (sym d.as_slice.ensures.value) at) is)
