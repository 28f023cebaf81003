-- The answers of a call that reads a whole input.
use Rattle.std.specs.Prelude.{◌≡◌, ◌⊎◌, ℕ, ◌<◌, ◌≤◌, ◌+◌, min, List, [], ◌++◌, length, drop, Option, Some, None, Bool}
use Rattle.std.specs.Prelude.{true, false, ⊤, Result, Ok, Err, MatchResult}
use Rattle.gh_base.specs.Outside.{Table, Rose}
use Rattle.gh_base.specs.declared.reading.InputError.{InputError}
use Rattle.gh_base.specs.declared.reading.InputError.TheVariants.{ReadFault, TooLong, Absent, OutOfMemory}

-- what the table has for a name: its bytes, or that there is no such input; None where the table isn't told
abbrev pub told : Option Table → List ℕ → Option (Option (List ℕ))
told None name = None
told (Some table) name = Some (table name)

-- the text is the whole input, where the table is told
abbrev pub IsWhole : Option (Option (List ℕ)) → List ℕ → Type 0
IsWhole None text = ⊤
IsWhole (Some bytes) text = bytes ≡ Some text

-- the input is longer than the limit, where the table is told
abbrev pub IsLonger : Option (Option (List ℕ)) → ℕ → Type 0
IsLonger None limit = ⊤
IsLonger (Some bytes) limit = (text : List ℕ) × (bytes ≡ Some text) × (limit < length text)

-- there is no such input, where the table is told
abbrev pub IsAbsent : Option (Option (List ℕ)) → Type 0
IsAbsent None = ⊤
IsAbsent (Some bytes) = bytes ≡ None

-- the cause of each refusal
abbrev pub IsCaused : Option (Option (List ℕ)) → ℕ → ℕ → ℕ → InputError → Type 0
IsCaused bytes limit before now ReadFault = Rose before now
IsCaused bytes limit before now TooLong = IsLonger bytes limit
IsCaused bytes limit before now Absent = IsAbsent bytes
IsCaused bytes limit before now OutOfMemory = ⊤

-- a refusal of the input of a name has its cause
abbrev pub IsRefused : {T : Type 0} → Option Table → List ℕ → ℕ → ℕ → ℕ → Result T InputError → Type 0
IsRefused table name limit before now result = MatchResult result (λ _. ⊤) (IsCaused (told table name) limit before now)

-- the count of faults is as before, unless the answer is a fault
abbrev pub IsCalm : {T : Type 0} → ℕ → ℕ → Result T InputError → Type 0
IsCalm before now (Err ReadFault) = ⊤
IsCalm before now result = now ≡ before

-- an input is begun, unless there was none; after a fault nothing is said
abbrev pub HasBegun : {T : Type 0} → Result T InputError → Bool → Type 0
HasBegun (Err Absent) begun = begun ≡ false
HasBegun (Err ReadFault) begun = ⊤
HasBegun result begun = begun ≡ true

-- at most `most` bytes of the input were read, and the others are left
abbrev pub StandsWithin : Option (List ℕ) → ℕ → Option (List ℕ) → Type 0
StandsWithin bytes most left =
    (text : List ℕ) × (n : ℕ) × (bytes ≡ Some text) × (n ≤ most) × (left ≡ Some (drop n text))

-- what is left of the input: nothing where it was read or is absent, what comes after limit + 1 bytes where it is too
-- long, and else what wasn't read, of which a fault may leave nothing
abbrev pub ReadsTo : {T : Type 0} → Option (Option (List ℕ)) → ℕ → Result T InputError → Option (List ℕ) → Type 0
ReadsTo None limit result left = ⊤
ReadsTo (Some bytes) limit (Ok text) left = left ≡ Some []
ReadsTo (Some bytes) limit (Err TooLong) left =
    (text : List ℕ) × (bytes ≡ Some text) × (left ≡ Some (drop (limit + 1) text))
ReadsTo (Some bytes) limit (Err Absent) left = left ≡ Some []
ReadsTo (Some bytes) limit (Err ReadFault) left = (left ≡ Some []) ⊎ StandsWithin bytes limit left
ReadsTo (Some bytes) limit (Err OutOfMemory) left = StandsWithin bytes (limit + 1) left

-- what has been read and what is left make up the whole
abbrev pub IsReading : Option (Option (List ℕ)) → List ℕ → Option (List ℕ) → Type 0
IsReading None text left = ⊤
IsReading (Some bytes) text left = (rest : List ℕ) × (left ≡ Some rest) × (bytes ≡ Some (text ++ rest))

-- the most calls that reading an input takes: one `begin`, a `read` for each byte that is taken, and one that gives
-- nothing, fails, or takes the byte past the limit
abbrev pub calls_for : Option (Option (List ℕ)) → ℕ → ℕ
calls_for None limit = limit + 2
calls_for (Some None) limit = 1
calls_for (Some (Some text)) limit = min (length text) limit + 2

-- the most calls that reading the input of a name takes
abbrev pub calls_of : Option Table → List ℕ → ℕ → ℕ
calls_of table name limit = calls_for (told table name) limit
