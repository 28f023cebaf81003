-- Writes to tables by the numbers of atoms.
use Rattle.std.proofs.Common.{◌≡◌, ◌≢◌, ◌<◌, Bool, Option, length, arith, refl, ◌∙◌, get_or-set_other, get_or-set_same}
use Rattle.gh_base.specs.declared.atom.Atom.{Atom}
use Rattle.gh_base.specs.declared.atom.Atom.TheVariants.{Eq, Btwn, Hop, Alloc, Def}
use Rattle.gh_base.specs.Atoms.{IsInRange, number_of}
use Rattle.gh_base.specs.Assignments.{Partial, IsPartial, with_value, ChangesAtom}
use Rattle.gh_base.specs.Structures.{Tables, AreTables, IsEquality, with_truth, ChangesTruth, interpretation_of}
use Rattle.gh_base.specs.Meaning.{atom_truth}
use Rattle.gh_base.proofs.NumberLemmas.{apart, number_below}

pub changes_atom : (p : Partial) (atom : Atom) (value : Option Bool) → IsPartial p → IsInRange p.sizes atom
    → ChangesAtom p (with_value p atom value) atom value
changes_atom p atom value h inside = record {
  sizes = refl;
  changed =
      let within : number_of p.sizes atom < length p.values = omega (arith, number_below p.sizes atom inside, h.all) in
      rw get_or-set_same;
  others = λ a there ne.
      let apart_too : number_of p.sizes a ≢ number_of p.sizes atom = λ e. ne (apart p.sizes a atom there inside e) in
      rw get_or-set_other;
}

-- the truth of an atom that is no equality is in the table
in_table : (s : Tables) (a : Atom) → (IsEquality a → ⊥)
    → atom_truth (interpretation_of s) a ≡ (interpretation_of s).table a
in_table s (Eq a b) n = absurd (n tt)
in_table s (Btwn v x y z) n = refl
in_table s (Hop v x y) n = refl
in_table s (Alloc v x) n = refl
in_table s (Def k) n = refl

stays : (s : Tables) (atom : Atom) (value : Bool) (a : Atom)
    → (interpretation_of (with_truth s atom value)).table a ≡ (interpretation_of s).table a
    → atom_truth (interpretation_of (with_truth s atom value)) a ≡ atom_truth (interpretation_of s) a
stays s atom value (Eq a b) e = refl
stays s atom value (Btwn v x y z) e = e
stays s atom value (Hop v x y) e = e
stays s atom value (Alloc v x) e = e
stays s atom value (Def k) e = e

pub changes_truth : (s : Tables) (atom : Atom) (value : Bool) → AreTables s → IsInRange s.sizes atom
    → (IsEquality atom → ⊥)
    → ChangesTruth s (with_truth s atom value) atom value
changes_truth s atom value h inside n = record {
  sizes = refl;
  classes = refl;
  changed =
      let within : number_of s.sizes atom < length s.table = omega (arith, number_below s.sizes atom inside, h.all) in
      in_table (with_truth s atom value) atom n ∙ get_or-set_same s.table (number_of s.sizes atom) value _ within;
  others = λ a there ne.
      let apart_too : number_of s.sizes a ≢ number_of s.sizes atom = λ e. ne (apart s.sizes a atom there inside e) in
      stays s atom value a (get_or-set_other s.table (number_of s.sizes atom) (number_of s.sizes a) value _ apart_too);
}
