use Rattle.std.proofs.Common.{◌≡◌, ℕ, ◌<◌, get_or, slice_get, Some}
use Rattle.gh_session.specs.declared.kept.Kept.{Kept}
use Rattle.gh_session.specs.Views.{essence_view}
use Rattle.gh_session.proofs.session.find.Given as goal

abbrev pub invariant-loop-place : goal.invariant-loop-place
invariant-loop-place l =
    (i n : ℕ) (k : Kept) → i < l.place-index → get_or l.places i n ≡ n → slice_get l.kept n ≡ Some k
    → essence_view k.essence ≡ essence_view l.essence → ⊥
