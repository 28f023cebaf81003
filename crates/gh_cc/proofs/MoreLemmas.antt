-- What a literal more that may be asserted gives.
use Rattle.std.proofs.Common.{◌≡◌, ◌+◌, ◌*◌, ◌≤◌, List, [], ◌∷◌, ◌++◌, length, Option, sym, ap, ◌∙◌, subst, arith}
use Rattle.std.proofs.lemmas.List.{length_push}
use Rattle.std.proofs.lemmas.List.Elements.{All-push}
use Rattle.gh_base.specs.declared.atom.Lit.{Lit}
use Rattle.gh_base.specs.declared.atom.Term.{Term}
use Rattle.gh_base.specs.Atoms.{IsInRange, AreInRange, count_of}
use Rattle.gh_cc.specs.declared.classes.Classes.TheInside.{Inside}
use Rattle.gh_cc.specs.Asserted.{Asserted, IsUnasserted}
use Rattle.gh_cc.specs.Kept.{Core, IsKept}
use Rattle.gh_cc.specs.Fields.{core_of}
use Rattle.gh_cc.specs.Uses.{Mentioned, all_mentions, terms_in}
use Rattle.gh_cc.proofs.KeptLemmas.{few_lits, apart_push}
use Rattle.gh_cc.proofs.MoveLemmas.{mentions_long, mentions_push}

-- the literal's atom is in range and free, and with it the literals are in range and still few enough
pub record MayAssert (c : Core) (x : Lit) : Type 0 where
  pub kept : IsKept c
  pub inside : IsInRange c.sizes x.atom
  pub free : IsUnasserted c.lits x.atom
  pub in_range : AreInRange c.sizes (c.lits ++ x ∷ [])
  pub long : length (c.lits ++ x ∷ []) ≡ length c.lits + 1
  pub few : length (c.lits ++ x ∷ []) ≤ count_of c.sizes

pub may_assert : (i : Inside) (x : Lit) (a : Asserted) → record { sizes = i.sizes; lits = i.lits.items } ≡ a
    → IsKept (core_of i) → IsInRange a.sizes x.atom → IsUnasserted a.lits x.atom → MayAssert (core_of i) x
may_assert i x a is kept in_range free =
    let inside : IsInRange i.sizes x.atom = subst (λ (b : Asserted). IsInRange b.sizes x.atom) (sym is) in_range in
    let open_here : IsUnasserted i.lits.items x.atom =
    subst (λ (b : Asserted). IsUnasserted b.lits x.atom) (sym is) free in
    let all : AreInRange i.sizes (i.lits.items ++ x ∷ []) =
    All-push (λ (l : Lit). IsInRange i.sizes l.atom) i.lits.items x kept.in_range inside in
    record {
      kept = kept;
      inside = inside;
      free = open_here;
      in_range = all;
      long = length_push i.lits.items x;
      few = few_lits i.sizes (i.lits.items ++ x ∷ []) all (apart_push i.lits.items x open_here kept.apart);
    }

-- its mentions fit where three of each atom do
pub mentions_fit : (c : Core) (x : Lit) (list : List (Option Term)) → MayAssert c x → list ≡ all_mentions c.lits
    → length list + 3 ≤ 3 * count_of c.sizes
mentions_fit c x list m listed = omega (arith, m.few, m.long, mentions_long c.lits, ap length listed)

-- the mentions of all literals stay listed
pub mentions_more : (lits all : List Lit) (x : Lit) (old new : Mentioned) → old.list ≡ all_mentions lits
    → new ≡ record { terms = old.terms; room = old.room; list = old.list ++ terms_in x.atom }
    → all ≡ lits ++ x ∷ [] → new.list ≡ all_mentions all
mentions_more lits all x old new listed more whole =
    ap (λ (u : Mentioned). u.list) more ∙ ap (λ (ts : List (Option Term)). ts ++ terms_in x.atom) listed
    ∙ sym (mentions_push lits x) ∙ ap all_mentions (sym whole)
