-- Lines that are read, and lines that show nothing.
use Rattle.std.specs.Prelude.{◌≡◌, ◌≢◌, ℕ, List, [], ◌∷◌, ◌++◌, codes, length, get_or, take, drop, true, Option, Some}
use Rattle.std.specs.Prelude.{None, MatchOption}
use Rattle.std.specs.Str.{bytes_eq}
use Rattle.std.proofs.lemmas.Slice.Eq.{bytes_eq-Decides}
use Rattle.std.proofs.lemmas.List.{append_assoc, append_cancel_left, length-append, take-append-drop}
use Rattle.std.proofs.Common.{refl, sym, ◌∙◌, ap, subst, arith}
use Rattle.gh_ast.specs.Plain.{Program}
use Rattle.gh_ast.specs.Programs.{Name}
use Rattle.gh_assert.specs.declared.store.Entry.{Entry}
use Rattle.gh_draw.specs.Reading.{IsFrontRead, ShowsWord, ShowsEntries, HasNoEnd}
use Rattle.gh_draw.proofs.Fronts.{entries_one}
use Rattle.gh_run.specs.Lines.{IsFirstLine, IsNumberOf, ShowsProcedure, ShowsStore, ShowsCellLine}
use Rattle.gh_run.proofs.Telling.{lines_one}

-- where no line feed is left, there is no first line
pub no_line : (text l rest : List ℕ) → HasNoEnd text → IsFirstLine text l rest → ⊥
no_line text l rest none f =
    let whole : text ≡ l ++ ((10 ∷ []) ++ rest) = f.whole ∙ append_assoc l (10 ∷ []) rest in
    let here : get_or text (length l) 0 ≡ 10 = ap (λ t. get_or t (length l) 0) whole ∙ at_end l rest in
    none (length l) (omega (arith, ap length whole, length-append l (10 ∷ rest))) here
  where
    at_end : (l rest : List ℕ) → get_or (l ++ 10 ∷ rest) (length l) 0 ≡ 10
    at_end [] rest = refl
    at_end (c ∷ cs) rest = at_end cs rest

pub first_one : (text l m a b : List ℕ) → IsFirstLine text l a → IsFirstLine text m b → (l ≡ m) × (a ≡ b)
first_one text l m a b f g = lines_one l m a b f.one g.one (sym f.whole ∙ g.whole)

-- the first line

pub no_procedure : (P : Program) (text left : List ℕ) → HasNoEnd text → IsFrontRead (ShowsProcedure P) text left None
no_procedure P text left none = λ n rest s. no_line text (codes "procedure " ++ s.name) rest none s.first

pub procedure_read : (P : Program) (text l name left : List ℕ) (o : Option ℕ) → IsFirstLine text l left
    → l ≡ codes "procedure " ++ name → MatchOption o ((n : ℕ) → IsNumberOf P name n → ⊥) (IsNumberOf P name)
    → IsFrontRead (ShowsProcedure P) text left o
procedure_read P text l name left (Some n) first is found =
    record { name = name; first = subst (λ z. IsFirstLine text z left) is first; number = found }
procedure_read P text l name left None first is none = λ n rest s.
    let lines = first_one text l (codes "procedure " ++ s.name) left rest first s.first in
    let names : name ≡ s.name = append_cancel_left (codes "procedure ") name s.name (sym is ∙ lines.0) in
    none n (subst (λ z. IsNumberOf P z n) (sym names) s.number)

-- what follows a front
pub front_is : (k : ℕ) (l w name : List ℕ) → bytes_eq (take k l) w ≡ true → name ≡ drop k l → l ≡ w ++ name
front_is k l w name same rest =
    sym (take-append-drop k l) ∙ ap (λ z. z ++ drop k l) ((bytes_eq-Decides (take k l) w).0 same)
    ∙ ap (λ z. w ++ z) (sym rest)

-- the second line

abbrev IsShown : List Name → List ℕ → List Entry → Type 0
IsShown names l es = (mid : List ℕ) × (l ≡ codes "store" ++ mid) × ShowsEntries names mid es []

shown_in : (names : List Name) (text l left rest : List ℕ) (es : List Entry) → IsFirstLine text l left
    → ShowsStore names text es rest → IsShown names l es
shown_in names text l left rest es first s =
    subst (λ z. IsShown names z es) (first_one text s.whole l rest left s.first first).0 s.shown

pub no_store_word : (names : List Name) (text l left last : List ℕ) → IsFirstLine text l left
    → IsFrontRead (ShowsWord (codes "store")) l last None → IsFrontRead (ShowsStore names) text left None
no_store_word names text l left last first none = λ es rest s. at es (shown_in names text l left rest es first s)
  where
    at : (es : List Entry) → IsShown names l es → ⊥
    at es (mid, begins, shown) = none tt mid begins

pub no_store_values : (names : List Name) (text l left inside last : List ℕ) → IsFirstLine text l left
    → l ≡ codes "store" ++ inside → IsFrontRead (ShowsEntries names) inside last None
    → IsFrontRead (ShowsStore names) text left None
no_store_values names text l left inside last first is none =
    λ es rest s. at es (shown_in names text l left rest es first s)
  where
    at : (es : List Entry) → IsShown names l es → ⊥
    at es (mid, begins, shown) =
        none es [] (subst (λ z. ShowsEntries names z es [])
        (append_cancel_left (codes "store") mid inside (sym begins ∙ is)) shown)

pub more_store_values : (names : List Name) (text l left inside last : List ℕ) (es : List Entry)
    → IsFirstLine text l left → l ≡ codes "store" ++ inside → ShowsEntries names inside es last → last ≢ []
    → IsFrontRead (ShowsStore names) text left None
more_store_values names text l left inside last es first is shows some =
    λ fs rest s. at fs (shown_in names text l left rest fs first s)
  where
    at : (fs : List Entry) → IsShown names l fs → ⊥
    at fs (mid, begins, shown) =
        let moved =
        subst (λ z. ShowsEntries names z fs []) (append_cancel_left (codes "store") mid inside (sym begins ∙ is))
        shown in
        some ((entries_one names inside es fs last [] shows moved).1)

pub store_read : (names : List Name) (text l left inside last : List ℕ) (es : List Entry) → IsFirstLine text l left
    → l ≡ codes "store" ++ inside → ShowsEntries names inside es last → last ≡ [] → ShowsStore names text es left
store_read names text l left inside last es first is shows none =
    record { whole = l; first = first; shown = (inside, is, subst (λ z. ShowsEntries names inside es z) none shows) }

-- the third line

pub no_heap_word : (text last left : List ℕ) → IsFrontRead (ShowsWord (codes "heap")) text last None
    → IsFrontRead ShowsCellLine text left None
no_heap_word text last left none = λ h rest s. none tt s.0 s.1
