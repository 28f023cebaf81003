-- What the inputs and the sink in memory answer.
use Rattle.std.specs.Prelude.{◌≡◌, ◌↔◌, ◌⊎◌, ℕ, ◌-◌, ◌<◌, min, cond, List, [], length, is_some, Bool, true, false}
use Rattle.std.specs.Prelude.{Contains, Result, IsErr, IfOk}
use Rattle.std.specs.Result.{is_err}
use Rattle.gh_base.specs.Outside.{next}
use Rattle.gh_base.specs.Files.{AreNoFiles, left_in}
use Rattle.gh_base.specs.declared.calls.Calls.{Calls}
use Rattle.gh_base.specs.declared.memory.MemoryInputs.{MemoryInputs}
use Rattle.gh_base.specs.declared.sink.MemorySink.{MemorySink}

-- no call has been made, and none is listed
pub record AreFresh (c : Calls) : Type 0 where
  pub failing : c.failing.items ≡ []
  pub made : c.made ≡ 0
  pub faults : c.faults ≡ 0

-- the next call is listed
abbrev pub IsListed : Calls → Type 0
IsListed c = Contains c.failing.items (next c.made)

-- a call was counted, and a fault exactly where it failed
pub record IsCounted (old new : Calls) (failed : Bool) : Type 0 where
  pub failing : new.failing.items ≡ old.failing.items
  pub made : new.made ≡ next old.made
  pub faults : new.faults ≡ cond failed (next old.faults) old.faults

-- no input, and nothing begun
pub record AreNoInputs (m : MemoryInputs) (piece : ℕ) : Type 0 where
  pub files : AreNoFiles m.files
  pub piece_is : m.piece ≡ piece
  pub calls : AreFresh m.calls

-- a `begin` fails exactly where its number is listed
pub record IsBegin {E : Type 0} (old new : MemoryInputs) (result : Result Bool E) : Type 0 where
  pub fails : IsErr result ↔ IsListed old.calls
  pub counted : IsCounted old.calls new.calls (is_err result)
  pub files : new.files.list ≡ old.files.list
  pub piece : new.piece ≡ old.piece

-- a `read` fails exactly where its number is listed and an input is begun; it gives as much as there is and fits, at
-- most a piece
pub record IsRead {E : Type 0} (old new : MemoryInputs) (room : ℕ) (result : Result ℕ E) : Type 0 where
  pub fails : IsErr result ↔ (IsListed old.calls × (is_some old.files.begun ≡ true))
  pub given : IfOk result (λ n. n ≡ min (min (length (left_in old.files)) room) old.piece)
  pub counted : IsCounted old.calls new.calls (is_err result)
  pub files : new.files.list ≡ old.files.list
  pub piece : new.piece ≡ old.piece

-- nothing written
pub record IsNewSink (s : MemorySink) (room piece : ℕ) : Type 0 where
  pub bytes : s.bytes.items ≡ []
  pub room_is : s.room ≡ room
  pub piece_is : s.piece ≡ piece
  pub failed : s.failed ≡ false
  pub calls : AreFresh s.calls

-- no room is left
abbrev pub IsFull : MemorySink → Type 0
IsFull s = s.room - length s.bytes.items ≡ 0

-- a `write` of some bytes fails exactly where its number is listed or no room is left, and one of none never fails; it
-- takes as much as fits, at most a piece
pub record IsWrite {E : Type 0} (old new : MemorySink) (bytes : List ℕ) (result : Result ℕ E) : Type 0 where
  pub fails : IsErr result ↔ ((0 < length bytes) × (IsListed old.calls ⊎ IsFull old))
  pub taken : IfOk result (λ n. n ≡ min (min (length bytes) old.piece) (old.room - length old.bytes.items))
  pub counted : IsCounted old.calls new.calls (is_err result)
  pub room : new.room ≡ old.room
  pub piece : new.piece ≡ old.piece
