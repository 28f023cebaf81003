use Rattle.std.proofs.Common.{◌≡◌, ◌∙◌, ◌<◌, ◌++◌, ◌∷◌, [], Contains, Some, rules, subst, sym, ap, length, slice_get}
use Rattle.gh_base.specs.declared.term.TermKind.TheVariants.{Null}
use Rattle.gh_grass.proofs.KindLemmas.{distinct_kinds, few_kept, first_kept, new_is_last}
use Rattle.gh_grass.proofs.terms.TermList.add.Goals as goal

pub invariant_of-self-2 : goal.invariant_of-self-2
invariant_of-self-2 c =
    let ks = c.self.inside.kinds.keys in
    let made = sym c.in_ok-place.ensures.keys in
    let room : length ks < 255 = subst (λ l. length l < 255) (sym c.self.view_is) c.requires.room in (
      subst (λ l. length l < 256) made (few_kept ks c.args.kind _ room),
      subst (λ l. slice_get l 0 ≡ Some Null) made (first_kept ks c.args.kind _ c.self.invariant.1),
      distinct_kinds _ (record { null = search rules; value = λ n. search rules; next = λ i x. search rules })
          c.insert_full.new.self.keys c.insert_full.ensures.unique,
    )

pub returns-clause-added : goal.returns-clause-added
returns-clause-added c = λ none.
    let ks = c.self.inside.kinds.keys in
    let stored = c.in_ok-place.ensures.stored in
    let same : stored.0 ≡ c.args.kind = search (rules, stored.2) in
    let fresh = subst (λ l. Contains l c.args.kind → ⊥) (sym c.self.view_is) none in
    let made =
    new_is_last ks c.insert_full.new.self.keys c.args.kind c.in_ok-place.place _ c.in_ok-place.ensures.keys
    (stored.1 ∙ ap Some same) fresh in
    made ∙ ap (λ l. l ++ c.args.kind ∷ []) c.self.view_is
