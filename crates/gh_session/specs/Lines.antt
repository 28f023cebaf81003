-- Session files: a head, then pieces of whole lines, each after its separator.
use Rattle.std.specs.Prelude.{◌≡◌, ◌⊎◌, ℕ, ◌+◌, ◌≤◌, ◌==◌, List, [], ◌∷◌, ◌++◌, length, cond, Bool, Contains}
use Rattle.std.specs.List.{concat}
use Rattle.gh_ast.specs.Programs.{Name}
use Rattle.gh_base.specs.Names.{IsNameText}
use Rattle.gh_base.specs.Texts.{line_end}
use Rattle.gh_session.specs.declared.edits.Edit.{Edit}
use Rattle.gh_session.specs.declared.edits.Edits.{Edits}
use Rattle.gh_session.specs.declared.error.SessionError.{SessionError}
use Rattle.gh_session.specs.declared.error.SessionError.TheVariants.{Line, TooMany, OutOfMemory}

-- the lines of a text with one byte more before its first line
abbrev pub begun : ℕ → List (List ℕ) → List (List ℕ)
begun c [] = (c ∷ []) ∷ []
begun c (l ∷ ls) = (c ∷ l) ∷ ls

-- the lines of a text, each with its line feed, which the last may lack
abbrev pub lines : List ℕ → List (List ℕ)
lines [] = []
lines (c ∷ cs) = cond (c == 10) (line_end ∷ lines cs) (begun c (lines cs))

-- `%% NAME` asks for an answer, `%+ NAME` does not
abbrev pub separator : Bool → Name → List ℕ
separator asks n = 37 ∷ cond asks 37 43 ∷ 32 ∷ n

pub record IsSeparator (line : List ℕ) (asks : Bool) (n : Name) : Type 0 where
  pub name : IsNameText n
  pub is : (line ≡ separator asks n) ⊎ (line ≡ separator asks n ++ line_end)

-- the line begins with `%`
abbrev pub IsMarked : List ℕ → Type 0
IsMarked line = (rest : List ℕ) × (line ≡ 37 ∷ rest)

-- the line begins with `%`, but is no separator
abbrev pub IsBad : List ℕ → Type 0
IsBad line = IsMarked line × ((asks : Bool) (n : Name) → IsSeparator line asks n → ⊥)

-- lines of a text that do not begin with `%`
pub record ArePlain (ls : List (List ℕ)) (text : List ℕ) : Type 0 where
  pub plain : (l : List ℕ) → Contains ls l → IsMarked l → ⊥
  pub whole : concat ls ≡ text

-- the lines of a piece: its separator, then its text
pub record IsPiece (e : Edit) (ls : List (List ℕ)) : Type 0 where
  pub mark : List ℕ
  pub more : List (List ℕ)
  pub whole : ls ≡ mark ∷ more
  pub separator : IsSeparator mark e.asks e.name
  pub text : ArePlain more e.text

-- the lines of some pieces
abbrev pub ArePieces : List Edit → List (List ℕ) → Type 0
ArePieces [] ls = ls ≡ []
ArePieces (e ∷ es) ls =
    (own : List (List ℕ)) × (more : List (List ℕ)) × (ls ≡ own ++ more) × IsPiece e own × ArePieces es more

-- the lines of a head and of at most 256 pieces
pub record AreSessionLines (head : List ℕ) (es : List Edit) (ls : List (List ℕ)) : Type 0 where
  pub first : List (List ℕ)
  pub more : List (List ℕ)
  pub whole : ls ≡ first ++ more
  pub text : ArePlain first head
  pub pieces : ArePieces es more
  pub few : length es ≤ 256

-- the text is a session file with this head and these pieces
abbrev pub IsSession : List ℕ → Edits → Type 0
IsSession text s = AreSessionLines s.head s.edits.items (lines text)

-- `here` is line n of the text, and before it stand a head and the pieces es
pub record IsLineAfter (text : List ℕ) (n : ℕ) (here : List ℕ) (es : List Edit) : Type 0 where
  pub before : List (List ℕ)
  pub after : List (List ℕ)
  pub whole : lines text ≡ before ++ here ∷ after
  pub number : n ≡ length before + 1
  pub head : List ℕ
  pub read : AreSessionLines head es before

-- the first line that is bad, or the separator after 256 pieces
abbrev pub IsFirstBad : List ℕ → SessionError → Type 0
IsFirstBad text (Line n) = (here : List ℕ) × (es : List Edit) × IsLineAfter text n here es × IsBad here
IsFirstBad text (TooMany n) =
    (here : List ℕ) × (es : List Edit) × (asks : Bool) × (name : Name) × IsLineAfter text n here es × (length es ≡ 256)
    × IsSeparator here asks name
IsFirstBad text OutOfMemory = Unit {0}
