-- A refusal within a part is a refusal of the part.
use Rattle.std.proofs.Common.{◌≡◌, List, ℕ, Result, Ok, Err, IfOk, IfErr, sym, subst}
use Rattle.std.specs.Result.{IsErrAnd}
use Rattle.std.proofs.lemmas.Result.{err_from_is_err_and}
use Rattle.gh_log.specs.declared.error.LogError.{LogError}
use Rattle.gh_log.specs.declared.error.Refusal.{Refusal}
use Rattle.gh_log.specs.declared.error.Refusal.TheVariants.{Outside, OutOfMemory}
use Rattle.gh_log.specs.Reading.{SpellsNothing, IsPartRefusal, IsPartRead}

pub within : {X Y : Type 0} (P : X → List ℕ → Type 0) (Q : Y → List ℕ → Type 0) (e : Refusal)
    → (SpellsNothing P → SpellsNothing Q) → IsPartRefusal P e → IsPartRefusal Q e
within P Q Outside f h = f h
within P Q OutOfMemory f h = tt

-- at the exit of a `?`
pub exit : {X Y Z : Type 0} (P : X → List ℕ → Type 0) (Q : Y → List ℕ → Type 0) (view : Z → Y)
    (answer : Result Z Refusal) (rest : List ℕ) (e : Refusal)
    → (SpellsNothing P → SpellsNothing Q) → IsPartRefusal P e → IsErrAnd answer (λ d. d ≡ e)
    → IsPartRead Q view answer rest
exit P Q view answer rest e f h r =
    let given = err_from_is_err_and answer r in rw (given.1, given.2) (within P Q e f h)

-- nothing is said of what an error holds
pub not_ok : {X : Type 0} (Q : Refusal → Type 0) (P : X → Type 0) (answer : Result X Refusal) → IsErrAnd answer Q
    → IfOk answer P
not_ok Q P (Ok x) h = absurd h
not_ok Q P (Err e) h = tt

pub if_err : {X : Type 0} (Q : LogError → Type 0) (answer : Result X LogError) (e : LogError) → Q e
    → IsErrAnd answer (λ d. d ≡ e) → IfErr answer Q
if_err Q (Ok x) e q h = tt
if_err Q (Err d) e q h = subst Q (sym h) q
