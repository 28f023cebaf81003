-- Lines of a valid section are in the ranges of the grammar, where the problem's sizes are.
use Rattle.std.proofs.Common.{◌≡◌, ℕ, ◌<◌, ◌≤◌, List, length, take, get_or, [], sym, subst, arith, All}
use Rattle.std.specs.Prelude.{Contains}
use Rattle.std.proofs.lemmas.List.{get_or_default, length-take-le}
use Rattle.std.proofs.lemmas.Option.{get_or_from_slice_get}
use Rattle.std.proofs.lemmas.List.Elements.{All-weaker, All-contains}
use Rattle.gh_base.specs.declared.atom.Atom.{Atom}
use Rattle.gh_base.specs.declared.atom.Atom.TheVariants.{Eq, Btwn, Hop, Alloc, Def}
use Rattle.gh_base.specs.declared.atom.Lit.{Lit}
use Rattle.gh_base.specs.Atoms.{IsInRange, AreInRange}
use Rattle.gh_base.specs.Grounds.{Problem}
use Rattle.gh_base.proofs.ListLemmas.{get_within, get_some}
use Rattle.gh_inst.specs.declared.naming.InstanceName.{InstanceName}
use Rattle.gh_inst.specs.Instances.{IsInstance, IsPadded, tuple_of}
use Rattle.gh_inst.specs.Table.{AxiomRow, row, table, row_with}
use Rattle.gh_inst.proofs.InstanceLemmas.{IsRowAt, row_at, row_there}
use Rattle.gh_inst.proofs.ListedLemmas.{row_in, found_row}
use Rattle.gh_log.specs.Lines.{LogLine}
use Rattle.gh_log.specs.Lines as line
use Rattle.gh_log.specs.Sections.{IsUndeleted, AllUndeleted, IsOfKind, AreOfKind}
use Rattle.gh_log.specs.Spelled.{IsSpelledAtom, AreSpelled, AreNumbers, IsSpelledName, IsOfVersion, HasSpelledParts}
use Rattle.gh_log.specs.Spelled.{IsSpelledLine}
use Rattle.gh_ground.specs.Solving.{FitsTypes}

-- rows of the table have small numbers, and one to four variables
record IsSmallRow (r : AxiomRow) : Type 0 where
  pub number : r.number ≤ 255
  pub some : 1 ≤ r.variables
  pub few : r.variables ≤ 4

small_at : (k : ℕ) (r : AxiomRow) → k < 15 → IsRowAt k r → IsSmallRow r
small_at k r lt is = record { number = omega (arith, is.number); some = is.some; few = is.few }

small_row : (r : AxiomRow) → Contains table r → IsSmallRow r
small_row r c =
    All-contains IsSmallRow table r
    (λ k d l. subst IsSmallRow (get_or_default table k (row 0 1 []) d l) (small_at k (row_at k) l (row_there k l)))
    c

spelled_by : (n versions : ℕ) (name : InstanceName) (r : AxiomRow) → n ≤ 255 → versions ≤ 255 → IsSmallRow r
    → r.number ≡ name.row → r.variables ≡ name.arity
    → name.version < versions → All (λ t. t.0 < n) (tuple_of name) → IsPadded name → IsSpelledName name
spelled_by n versions name r terms few small number arity below tuple padded = record {
  row = omega (arith, small.number, number);
  version = omega arith;
  some = omega (arith, small.some, arity);
  few = omega (arith, small.few, arity);
  terms = All-weaker (λ t. t.0 < n) (λ t. t.0 ≤ 255) (λ t lt. omega arith) (tuple_of name) tuple;
  padded = padded;
}

spelled_name : (n versions : ℕ) (name : InstanceName) → n ≤ 255 → versions ≤ 255 → IsInstance n versions name
    → IsSpelledName name
spelled_name n versions name terms few is =
    let f = found_row (row_with name.row table) name.arity is.row in
    let t = row_in name.row table f.0 f.1 in
    spelled_by n versions name f.0 terms few (small_row f.0 t.0) t.1 f.2 is.version is.terms is.padded

module _ (p : Problem) (fits : FitsTypes p) where
  spelled_atom : (a : Atom) → IsInRange p.sizes a → IsSpelledAtom a
  spelled_atom (Eq a b) is = (is.0, omega (arith, is.1, fits.terms))
  spelled_atom (Btwn v x y z) is = (
    omega (arith, is.0, fits.versions),
    omega (arith, is.1, fits.terms),
    omega (arith, is.2, fits.terms),
    omega (arith, is.3, fits.terms),
  )
  spelled_atom (Hop v x y) is =
      (omega (arith, is.0, fits.versions), omega (arith, is.1, fits.terms), omega (arith, is.2, fits.terms))
  spelled_atom (Alloc v x) is = (omega (arith, is.0, fits.versions), omega (arith, is.1, fits.terms))
  spelled_atom (Def number) is = omega (arith, is, fits.defs)

  spelled_clause : (c : List Lit) → AreInRange p.sizes c → AreSpelled c
  spelled_clause c is =
      All-weaker (λ l. IsInRange p.sizes l.atom) (λ l. IsSpelledAtom l.atom) (λ l a. spelled_atom l.atom a) c is

  -- a position that stands is no greater than the number of lines
  spelled_positions : (earlier : List LogLine) (positions : List ℕ) → length earlier ≤ 4294967295
      → AllUndeleted p earlier positions → AreNumbers positions
  spelled_positions earlier positions few all =
      All-weaker (IsUndeleted p earlier) (λ n. n ≤ 4294967295)
      (λ n s. within n s (get_within earlier s.there.place s.there.line s.there.at)) positions all
    where
      within : (n : ℕ) (s : IsUndeleted p earlier n) → s.there.place < length earlier → n ≤ 4294967295
      within n s lt = omega (arith, s.there.position_is)

  spelled_parts : (earlier : List LogLine) (l : LogLine) → length earlier ≤ 4294967295 → IsOfKind p earlier l
      → HasSpelledParts l
  spelled_parts earlier (line.Axiom name) few is =
      spelled_name p.sizes.terms p.sizes.versions name fits.terms fits.versions is
  spelled_parts earlier (line.Clause k) few is = omega (arith, is, fits.clauses)
  spelled_parts earlier (line.Lemma c) few is = spelled_clause c is.in_range
  spelled_parts earlier (line.Learnt c) few is = spelled_clause c is.0
  spelled_parts earlier (line.Hinted c hints) few is =
      (spelled_clause c is.0, spelled_positions earlier hints few is.1.stand)
  spelled_parts earlier (line.Delete positions) few is = spelled_positions earlier positions few is.0

  pub spelled_lines : (lines : List LogLine) → length lines ≤ 4294967294 → All (IsOfVersion 2) lines → AreOfKind p lines
      → All (IsSpelledLine 2) lines
  spelled_lines lines few version kinds = λ k d lt.
      let w = get_some lines k lt in
      let is : get_or lines k d ≡ w.0 = get_or_from_slice_get lines k w.0 d w.1 in
      let short : length (take k lines) ≤ 4294967295 = omega (arith, length-take-le k lines (omega arith)) in
      let parts : HasSpelledParts w.0 = spelled_parts (take k lines) w.0 short (kinds k w.0 w.1) in
      (version k d lt, subst HasSpelledParts (sym is) parts)
