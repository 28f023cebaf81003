-- The words of each mode, and what their files hold.
use Rattle.std.specs.Prelude.{ℕ, List, [], ◌∷◌, Option, Some, None, Bool, true, false, ◌==◌, cond, codes}
use Rattle.std.specs.Str.{bytes_eq}
use Rattle.gh_base.specs.Outside.{Table}

-- the word of a mode; it is empty where the number is no mode
abbrev pub word_of : ℕ → List ℕ
word_of n =
    cond (n == 0) (codes "check") (cond (n == 1) (codes "smallest") (cond (n == 2) (codes "paths")
    (cond (n == 3) (codes "log") (cond (n == 4) (codes "entail") (cond (n == 5) (codes "recheck")
    (cond (n == 6) (codes "replay") []))))))

-- whether a mode is about two texts
abbrev pub is_on_two : ℕ → Bool
is_on_two n = cond (n == 5) true (n == 6)

-- the name of the second text, where the mode has one
abbrev pub second_word : Bool → List (List ℕ)
second_word true = codes "second" ∷ []
second_word false = []

-- `MODE program`, or `MODE program second`
abbrev pub words_of : ℕ → List (List ℕ)
words_of n = word_of n ∷ codes "program" ∷ second_word (is_on_two n)

-- `program` holds one text, `second` another, and there are no other files
abbrev pub table_over : List ℕ → List ℕ → Table
table_over text second name =
    cond (bytes_eq name (codes "program")) (Some text) (cond (bytes_eq name (codes "second")) (Some second) None)
