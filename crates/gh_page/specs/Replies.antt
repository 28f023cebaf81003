-- What a call hands out: its reply, if it fits.
use Rattle.std.specs.Prelude.{◌≡◌, ◌⊎◌, ◌<◌, ℕ, List, length, take, Result, Ok, Err}
use Rattle.gh_top.specs.Statuses.{number_of}
use Rattle.gh_top.specs.declared.status.Status.TheVariants.{WriteFault, OutOfMemory}
use Rattle.gh_page.specs.declared.reply.Ended.{Ended}
use Rattle.gh_page.specs.declared.reply.Reply.{Reply}

-- the reply stands at the front of the slice, and its status and its length are told
pub record IsWritten (r : Reply) (e : Ended) (into : List ℕ) : Type 0 where
  pub status : e.status ≡ number_of r.status
  pub count : e.count ≡ r.count
  pub length_is : e.length ≡ length r.text
  pub bytes : take (length r.text) into ≡ r.text

-- the slice is too short for the reply, whose length is told
pub record HasNoRoom (r : Reply) (e : Ended) (into : List ℕ) : Type 0 where
  pub status : e.status ≡ number_of WriteFault
  pub length_is : e.length ≡ length r.text
  pub short : length into < length r.text

pub record IsOutOfMemory (e : Ended) : Type 0 where
  pub status : e.status ≡ number_of OutOfMemory
  pub length_is : e.length ≡ 0

abbrev pub IsHandedOn : Reply → Ended → List ℕ → Type 0
IsHandedOn r e into = IsWritten r e into ⊎ HasNoRoom r e into

abbrev pub IsHandedOut : {E : Type 0} → Result Reply E → Ended → List ℕ → Type 0
IsHandedOut (Ok r) e into = IsHandedOn r e into
IsHandedOut (Err x) e into = IsOutOfMemory e

-- a reply of which F holds is handed out
pub record HandsOn (F : Reply → Type 0) (e : Ended) (into : List ℕ) : Type 0 where
  pub reply : Reply
  pub is : F reply
  pub handed : IsHandedOn reply e into

-- the same, or memory ran out
abbrev pub HandsOut : (Reply → Type 0) → Ended → List ℕ → Type 0
HandsOut F e into = HandsOn F e into ⊎ IsOutOfMemory e
