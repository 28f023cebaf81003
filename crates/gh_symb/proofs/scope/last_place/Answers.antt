use Rattle.std.proofs.Common.{◌≡◌, ◌⊎◌, ◌∙◌, ◌+◌, ◌-◌, ◌<◌, ◌≤◌, ℕ, List, length, get_or, sym, ap, subst, inl, inr}
use Rattle.std.proofs.Common.{arith, true, false}
use Rattle.std.specs.Str.{bytes_eq}
use Rattle.std.proofs.lemmas.List.{get_or_default}
use Rattle.gh_ast.specs.Programs.{Name}
use Rattle.gh_grass.proofs.Bonds.{same_name}
use Rattle.gh_symb.specs.Tables.{NoneFrom}
use Rattle.gh_symb.specs.declared.scope.Entry.{Entry}
use Rattle.gh_symb.proofs.scope.last_place.Goals as goal

none_more : (es : List Entry) (x : Name) (left i : ℕ) → i + 1 ≡ left → ((d : Entry) → (get_or es i d).name.now ≡ x → ⊥)
    → NoneFrom es x left → NoneFrom es x i
none_more es x left i next here none k d low within named = elim (at_or i k low) [
  | inl same ↦ here d (subst (λ j. (get_or es j d).name.now ≡ x) (sym same) named)
  | inr after ↦ none k d (omega (arith, next, after)) within named
]
  where
    at_or : (i k : ℕ) → i ≤ k → (i ≡ k) ⊎ (i < k)
    at_or i k low = grind arith

pub loop-left-preserved : goal.loop-left-preserved
loop-left-preserved c =
    let es = c.args.entries.now in
    let i = c.loop-left.left - 1 in
    let e = c.index-entries-left.result in
    let next : i + 1 ≡ c.loop-left.left = omega arith in
    let within : i < length es = omega arith in
    let other : bytes_eq c.bytes.result.now c.args.name.now ≡ false = sym c.eq.ensures ∙ c.if-eq.false in
    record {
      within = omega arith;
      none = none_more es c.args.name.now c.loop-left.left i next
          (λ d named.
          let is : c.bytes.result.now ≡ c.args.name.now =
          c.bytes.ensures.text ∙ ap (λ (q : Entry). q.name.now) (get_or_default es i e d within) ∙ named in
          let same : bytes_eq c.bytes.result.now c.args.name.now ≡ true =
          same_name c.bytes.result.now c.args.name.now is in
          absurd cc)
          c.loop-left.invariant.none;
    }
