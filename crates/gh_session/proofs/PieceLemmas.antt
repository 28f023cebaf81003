-- Pieces that are read one after the other.
use Rattle.std.specs.Prelude.{◌≡◌, ℕ, ◌+◌, ◌-◌, ◌<◌, ◌≤◌, List, [], ◌∷◌, ◌++◌, length, take, drop, Bool}
use Rattle.std.proofs.Common.{refl, sym, ◌∙◌, ap, subst, arith}
use Rattle.std.proofs.lemmas.List.{append_assoc, append-nil, length-append, length-drop}
use Rattle.gh_ast.specs.Programs.{Name}
use Rattle.gh_session.specs.declared.edits.Edit.{Edit}
use Rattle.gh_session.specs.declared.edits.Edits.{Edits}
use Rattle.gh_session.specs.declared.lines.Part.{Part}
use Rattle.gh_session.specs.declared.error.SessionError.TheVariants.{Line, TooMany}
use Rattle.gh_session.specs.Lines.{lines, IsSeparator, IsPiece, ArePieces, AreSessionLines, IsSession, IsLineAfter}
use Rattle.gh_session.specs.Lines.{IsFirstBad}
use Rattle.gh_session.specs.Parts.{IsFirstPart, IsReadBefore}

pieces_more : (es : List Edit) (ls : List (List ℕ)) (e : Edit) (own : List (List ℕ)) → ArePieces es ls → IsPiece e own
    → ArePieces (es ++ e ∷ []) (ls ++ own)
pieces_more [] ls e own none piece = (own, [], ap (λ xs. xs ++ own) none ∙ sym (append-nil own), piece, refl)
pieces_more (d ∷ es) ls e own (first, more, whole, is, rest) piece = (
  first,
  more ++ own,
  ap (λ xs. xs ++ own) whole ∙ append_assoc first more own,
  is,
  pieces_more es more e own rest piece,
)

pub begun : (text : List ℕ) (part : Part) → IsFirstPart text part
    → IsReadBefore text part.text.now [] part.lines part.rest.now
begun text part is = record {
  before = is.taken;
  whole = is.whole;
  read = record {
    first = is.taken;
    more = [];
    whole = sym (append-nil is.taken);
    text = is.plain;
    pieces = refl;
    few = omega arith;
  };
  number_is = is.count;
  next = is.next;
  short = is.short;
}

pub one_more : (text head : List ℕ) (es : List Edit) (number : ℕ) (rest : List ℕ) (n : ℕ) (e : Edit) (part : Part)
    → IsReadBefore text head es number rest → lines rest ≡ take n rest ∷ lines (drop n rest) → 1 ≤ n → n ≤ length rest →
    IsSeparator (take n rest) e.asks e.name → IsFirstPart (drop n rest) part → e.text ≡ part.text.now → length es < 256
    → IsReadBefore text head (es ++ e ∷ []) (number + 1 + part.lines) part.rest.now
one_more text head es number rest n e part is first some within separated next same few = record {
  before = is.before ++ own;
  whole =
      is.whole ∙ ap (λ ls. is.before ++ ls) (first ∙ ap (λ ls. take n rest ∷ ls) next.whole)
      ∙ sym (append_assoc is.before own (lines part.rest.now));
  read = record {
    first = is.read.first;
    more = is.read.more ++ own;
    whole = ap (λ ls. ls ++ own) is.read.whole ∙ append_assoc is.read.first is.read.more own;
    text = is.read.text;
    pieces = pieces_more es is.read.more e own is.read.pieces
        (record {
          mark = take n rest;
          more = next.taken;
          whole = refl;
          separator = separated;
          text = record { plain = next.plain.plain; whole = next.plain.whole ∙ sym same };
        });
    few =
        let longer : length (es ++ e ∷ []) ≡ length es + 1 = length-append es (e ∷ []) in
        omega (arith, longer, few);
  };
  number_is =
      let longer : length (is.before ++ own) ≡ length is.before + length own = length-append is.before own in
      let own_is : length own ≡ length next.taken + 1 = omega arith in
      omega (arith, longer, own_is, is.number_is, next.count);
  next = next.next;
  short =
      let left : length (drop n rest) ≡ length rest - n = length-drop n rest in
      omega (arith, left, is.short, next.short, some, within);
}
  where
    own : List (List ℕ)
    own = take n rest ∷ next.taken

pub stops : (text head : List ℕ) (es : List Edit) (number : ℕ) (rest : List ℕ) (n : ℕ)
    → IsReadBefore text head es number rest → lines rest ≡ take n rest ∷ lines (drop n rest)
    → IsLineAfter text (number + 1) (take n rest) es
stops text head es number rest n is first = record {
  before = is.before;
  after = lines (drop n rest);
  whole = is.whole ∙ ap (λ ls. is.before ++ ls) first;
  number = ap (λ m. m + 1) is.number_is;
  head = head;
  read = is.read;
}

pub is_bad : (text head : List ℕ) (es : List Edit) (number : ℕ) (rest : List ℕ) (n : ℕ)
    → IsReadBefore text head es number rest → lines rest ≡ take n rest ∷ lines (drop n rest) →
    ((asks : Bool) (name : Name) → IsSeparator (take n rest) asks name → ⊥) → IsFirstBad text (Line (number + 1))
is_bad text head es number rest n is first none = (
  take n rest,
  es,
  stops text head es number rest n is first,
  (is.next (take n rest) (lines (drop n rest)) first, none),
)

pub is_too_many : (text head : List ℕ) (es : List Edit) (number : ℕ) (rest : List ℕ) (n : ℕ) (asks : Bool) (name : Name)
    → IsReadBefore text head es number rest → lines rest ≡ take n rest ∷ lines (drop n rest) →
    IsSeparator (take n rest) asks name → length es ≡ 256 → IsFirstBad text (TooMany (number + 1))
is_too_many text head es number rest n asks name is first separated most =
    (take n rest, es, asks, name, stops text head es number rest n is first, most, separated)

pub all_read : (text : List ℕ) (s : Edits) (number : ℕ) (rest : List ℕ)
    → IsReadBefore text s.head s.edits.items number rest → rest ≡ [] → IsSession text s
all_read text s number rest is none =
    subst (AreSessionLines s.head s.edits.items)
    (sym (is.whole ∙ ap (λ xs. is.before ++ lines xs) none ∙ append-nil is.before)) is.read
