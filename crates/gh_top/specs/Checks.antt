-- What `check` answers for a program text.
use Rattle.std.specs.Prelude.{◌≡◌, ℕ, List, Option, Some}
use Rattle.gh_ast.specs.Plain.{Program}
use Rattle.gh_trace.specs.Validity.{ListedAreValid}
use Rattle.gh_top.specs.Refusals.{IsAccepted, IsProgramRefused, refusal_text}
use Rattle.gh_top.specs.Reports.{IsRefutation, verified_text}
use Rattle.gh_top.specs.declared.refusal.Refusal.{Refusal}
use Rattle.gh_top.specs.declared.status.Status.{Status}
use Rattle.gh_top.specs.declared.status.Status.TheVariants.{Verified, Refuted, TextRefused}

-- the status and the text for an admitted program
pub data IsProgramVerdict (P : Program) : Status → List ℕ → Type 0 where
  all_valid : ListedAreValid P → IsProgramVerdict P Verified (verified_text P)
  some_refuted : {u : List ℕ} → IsRefutation P u → IsProgramVerdict P Refuted u

-- for the bytes of a program text, or for no file: the refusal of the text, or the verdict on its program
pub data IsCheckText (bytes : Option (List ℕ)) : Status → List ℕ → Type 0 where
  of_refusal : (x : Refusal) → IsProgramRefused bytes x → IsCheckText bytes TextRefused (refusal_text x)
  of_verdict : {text u : List ℕ} {P : Program} {s : Status} → bytes ≡ Some text → IsAccepted text P
      → IsProgramVerdict P s u → IsCheckText bytes s u
