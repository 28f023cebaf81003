-- Drawable states have values within 32 bits.
use Rattle.std.specs.Prelude.{◌≡◌, ◌≢◌, ℕ, zero, suc, ◌<◌, List, [], ◌∷◌, Bool, true, false, cond, Option, Some, None}
use Rattle.std.specs.Prelude.{length, get_or, All}
use Rattle.std.specs.FinMap.{entries, find, get-entries}
use Rattle.std.specs.Ordering.{nat_cmp, is_eq}
use Rattle.std.specs.Cmp.{nat_cmp_is}
use Rattle.std.proofs.Common.{refl, sym, ◌∙◌, ap, subst, arith, Less}
use Rattle.std.proofs.lemmas.List.{length-map, get_or-map, get_or_default}
use Rattle.std.proofs.lemmas.List.Elements.{All-nil, All-cons}
use Rattle.gh_ast.specs.Programs.{Name}
use Rattle.gh_assert.specs.Heaps.{IsProper}
use Rattle.gh_assert.specs.Stores.{listed_names, store_of, AreDistinct, IsListedAt}
use Rattle.gh_assert.specs.declared.store.Entry.{Entry}
use Rattle.gh_assert.proofs.Entries.{listed_here}
use Rattle.gh_trace.specs.Kept.{state_of}
use Rattle.gh_trace.specs.declared.state.State.{State}
use Rattle.gh_draw.specs.Drawings.{IsDrawable}
use Rattle.gh_draw.specs.Drawn.{IsValue, HasValues}
use Rattle.gh_draw.specs.Laws.{DrawableHaveValues}
use Rattle.gh_draw.proofs.Refuted.{state_drawable}

-- the name of an entry
named_at : (es : List Entry) (k : ℕ) (d : Entry) (n : Name) → k < length es
    → get_or (listed_names es) k n ≡ (get_or es k d).name
named_at es k d n low = get_or-map (λ (e : Entry). e.name) es k d n low

-- each entry is the first of its name
at_own : (es : List Entry) (k : ℕ) (d : Entry) → k < length es → AreDistinct es → IsListedAt es (get_or es k d).name k
at_own es k d low apart = record {
  within = low;
  named = λ e. ap (λ (x : Entry). x.name) (get_or_default es k e d low);
  earlier = λ j e less same. apart j k d.name less (omega (arith, low, length-map es (λ (x : Entry). x.name)))
      (named_at es j e d.name (omega (arith, less, low)) ∙ same ∙ sym (named_at es k d d.name low));
}

own_value : (es : List Entry) (k : ℕ) (d : Entry) → k < length es → AreDistinct es
    → store_of es (get_or es k d).name ≡ (get_or es k d).value
own_value es k d low apart = let here = listed_here es (get_or es k d).name k d (at_own es k d low apart) in
    rw here refl

passed : (b : Bool) (v : ℕ) (o : Option ℕ) → b ≡ false → cond b (Some v) o ≡ None → o ≡ None
passed true v o f e = absurd cc
passed false v o f e = e

-- null has no cell
no_null : (cells : List (ℕ × ℕ)) → find nat_cmp 0 cells ≡ None → All (λ c. c.0 ≢ 0) cells
no_null [] e = All-nil (λ (c : ℕ × ℕ). c.0 ≢ 0)
no_null ((zero, v) ∷ cells) e = absurd cc
no_null ((suc k, v) ∷ cells) e = All-cons (λ (c : ℕ × ℕ). c.0 ≢ 0) (suc k, v) cells (λ z. omega (arith, z))
    (no_null cells (passed (is_eq (nat_cmp 0 (suc k))) v (find nat_cmp 0 cells)
    (ap is_eq (sym (nat_cmp_is 0 (suc k) Less (omega arith)))) e))

has_values : (s : State) → AreDistinct s.store → IsProper s.heap → IsDrawable (listed_names s.store) (state_of s)
    → HasValues s
has_values s apart proper drawable = record {
  values = λ k d low.
      let name : Name = (get_or s.store k d).name in
      let there : k < length (listed_names s.store) = omega (arith, low, length-map s.store (λ (x : Entry). x.name)) in
      let small : IsValue (store_of s.store (get_or (listed_names s.store) k name)) = drawable.values k name there in
      subst IsValue (ap (store_of s.store) (named_at s.store k d name low) ∙ own_value s.store k d low apart) small;
  cells = λ k d low.
      let both = drawable.cells k d low in
      let none = no_null (entries s.heap) (sym (get-entries s.heap 0) ∙ proper) in
      record { not_null = none k d low; place = both.0; content = both.1 };
}

pub drawable_have_values : DrawableHaveValues
drawable_have_values = record { drawable = state_drawable; values = has_values }
