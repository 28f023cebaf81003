-- Laws of the texts of logs.
use Rattle.std.specs.Prelude.{◌≡◌, ℕ, List}
use Rattle.gh_log.specs.Lines.{LogLine}
use Rattle.gh_log.specs.Texts.{log_text}
use Rattle.gh_log.specs.Spelled.{IsSpelled, IsLogText, IsFirstOutside}

-- two logs that the grammar can spell are one where their texts are
abbrev pub HaveOneText : Type 0
HaveOneText =
    (m n : ℕ) (one other : List (List LogLine)) → IsSpelled m one → IsSpelled n other
    → log_text m one ≡ log_text n other
    → (m ≡ n) × (one ≡ other)

-- the text of a log has no first line outside the grammar
abbrev pub LogsAreInside : Type 0
LogsAreInside = (text : List ℕ) (k : ℕ) → IsLogText text → IsFirstOutside text k → ⊥
