-- Parts of a session file as they are read.
use Rattle.std.specs.Prelude.{◌≡◌, ◌⊎◌, ℕ, ◌+◌, ◌≤◌, List, ◌∷◌, ◌++◌, length}
use Rattle.gh_base.specs.Texts.{line_end}
use Rattle.gh_session.specs.declared.edits.Edit.{Edit}
use Rattle.gh_session.specs.declared.lines.Part.{Part}
use Rattle.gh_session.specs.Lines.{lines, IsMarked, ArePlain, AreSessionLines}

-- the line without the line feed that may stand at its end
pub record IsBare (line bare : List ℕ) : Type 0 where
  pub is : (line ≡ bare) ⊎ (line ≡ bare ++ line_end)
  pub whole : (front : List ℕ) → line ≡ front ++ line_end → front ≡ bare

-- the next line, if there is one, begins with `%`
abbrev pub ComesBefore : List ℕ → Type 0
ComesBefore rest = (l : List ℕ) (ls : List (List ℕ)) → lines rest ≡ l ∷ ls → IsMarked l

-- the lines before the first that begins with `%`
pub record IsFirstPart (text : List ℕ) (part : Part) : Type 0 where
  pub taken : List (List ℕ)
  pub whole : lines text ≡ taken ++ lines part.rest.now
  pub plain : ArePlain taken part.text.now
  pub count : part.lines ≡ length taken
  pub next : ComesBefore part.rest.now
  pub short : part.lines + length part.rest.now ≤ length text

-- what is read before the rest
pub record IsReadBefore (text : List ℕ) (head : List ℕ) (es : List Edit) (number : ℕ) (rest : List ℕ) : Type 0 where
  pub before : List (List ℕ)
  pub whole : lines text ≡ before ++ lines rest
  pub read : AreSessionLines head es before
  pub number_is : number ≡ length before
  pub next : ComesBefore rest
  pub short : number + length rest ≤ length text
