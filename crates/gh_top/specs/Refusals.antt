-- The first refusal of a program text: it is absent, its length, a byte, the depth, the syntax, the first type error,
-- the first limit.
use Rattle.std.specs.Prelude.{◌≡◌, ℕ, ◌<◌, ◌≤◌, List, ◌++◌, length, codes, Option, Some, None}
use Rattle.std.specs.Fmt.{decimal}
use Rattle.gh_ast.specs.Limits.{most_bytes}
use Rattle.gh_base.specs.declared.place.Span.{Span}
use Rattle.gh_ast.specs.Plain.{Program}
use Rattle.gh_ast.specs.Tokens.{IsFirstByte}
use Rattle.gh_ast.specs.Grammar.{Spells}
use Rattle.gh_ast.specs.Place.{IsPlace, IsProgram}
use Rattle.gh_ast.specs.Rules.{IsTyped, IsFirstBroken}
use Rattle.gh_parse.specs.Parsing.{HasCharacters, IsShallow}
use Rattle.gh_parse.specs.Scanning.{IsDeepPlace}
use Rattle.gh_path.specs.Admitted.{IsFirstLimit, IsAdmitted}
use Rattle.gh_top.specs.Rules.{rule_number, rule_name, kind_of, kind_name}
use Rattle.gh_top.specs.declared.refusal.Refusal.{Refusal}
use Rattle.gh_top.specs.declared.refusal.Refusal.TheVariants.{Absent, TooLong, Byte, Deep, Syntax, TypeError, Limit}
use Rattle.gh_draw.specs.Descriptions.{place_text}
use Rattle.gh_draw.specs.Drawings.{line}

-- the text isn't too long, each byte outside comments is a character, and the brackets don't nest too deep
pub record IsReadable (text : List ℕ) : Type 0 where
  pub short : length text ≤ most_bytes
  pub characters : HasCharacters text
  pub shallow : IsShallow text

-- the text is readable, and spells the program
pub record IsText (text : List ℕ) (P : Program) : Type 0 where
  pub readable : IsReadable text
  pub spells : Spells text P

-- nothing before the depth is refused, and p is the place of the first bracket that nests too deep
pub record IsDeepAt (text : List ℕ) (p : Span) : Type 0 where
  pub short : length text ≤ most_bytes
  pub characters : HasCharacters text
  pub deep : IsDeepPlace text p

-- the first refusal of the bytes of a program text
abbrev pub IsProgramRefused : Option (List ℕ) → Refusal → Type 0
IsProgramRefused bytes Absent = bytes ≡ None
IsProgramRefused bytes TooLong = (text : List ℕ) × (bytes ≡ Some text) × (most_bytes < length text)
IsProgramRefused bytes (Byte k) =
    (text : List ℕ) × (bytes ≡ Some text) × (length text ≤ most_bytes) × IsFirstByte text k
IsProgramRefused bytes (Deep place) = (text : List ℕ) × (bytes ≡ Some text) × IsDeepAt text place
IsProgramRefused bytes (Syntax place) =
    (text : List ℕ) × (bytes ≡ Some text) × IsReadable text × ((P : Program) → Spells text P → ⊥)
    × IsPlace IsProgram text place
IsProgramRefused bytes (TypeError r place) =
    (text : List ℕ) × (P : Program) × (bytes ≡ Some text) × IsText text P × IsFirstBroken P (rule_number r) place
IsProgramRefused bytes (Limit l) =
    (text : List ℕ) × (P : Program) × (bytes ≡ Some text) × IsText text P × IsTyped P × IsFirstLimit P l

-- the text spells an admitted program
pub record IsAccepted (text : List ℕ) (P : Program) : Type 0 where
  pub spelled : IsText text P
  pub admitted : IsAdmitted P

abbrev pub refused_at : List ℕ → Span → List ℕ
refused_at name p = line (codes "refused: " ++ name ++ codes " at " ++ place_text p)

abbrev pub refusal_text : Refusal → List ℕ
refusal_text Absent = line (codes "refused: Absent")
refusal_text TooLong = line (codes "refused: TooLong")
refusal_text (Byte k) = line (codes "refused: Byte at offset " ++ decimal k)
refusal_text (Deep p) = refused_at (codes "Deep") p
refusal_text (Syntax p) = refused_at (codes "Syntax") p
refusal_text (TypeError r p) = refused_at (rule_name r) p
refusal_text (Limit l) = line (codes "refused: Limit " ++ kind_name (kind_of l.kind) ++ codes " at "
    ++ place_text l.span ++ codes ", count " ++ decimal l.count)
