-- Where an input stands after a read.
use Rattle.std.proofs.Common.{◌≡◌, ◌≤◌, ◌+◌, ℕ, List, ◌++◌, Option, Some, None, Result, Ok, Err, IsErrAnd, take, drop}
use Rattle.std.proofs.Common.{length, arith, sym, ap, ◌∙◌, append_assoc}
use Rattle.std.proofs.Math.Seq.{drop-append_seam}
use Rattle.std.proofs.lemmas.List.{length-append, length-take}
use Rattle.std.specs.Io.KnownBytes.{Consumes}
use Rattle.gh_base.specs.Reading.{IsReading, StandsWithin, ReadsTo}
use Rattle.gh_base.specs.declared.reading.InputError.{InputError}
use Rattle.gh_base.specs.declared.reading.InputError.TheVariants.{OutOfMemory}

stands : (bytes : Option (List ℕ)) (old new : Option (List ℕ)) (text given : List ℕ) (most : ℕ)
    → IsReading (Some bytes) text old → Consumes old new given → length text + length given ≤ most
    → StandsWithin bytes most new
stands bytes None new text given most h c fits = absurd (none_is_some h.1)
  where
    none_is_some : {X : Type 0} {x : X} → None ≡ Some x → ⊥
    none_is_some e = absurd cc
stands bytes (Some xs) None text given most h c fits = absurd c
stands bytes (Some xs) (Some ys) text given most h c fits =
    let whole : text ++ h.0 ≡ (text ++ given) ++ ys =
    ap (λ zs. text ++ zs) (some_is h.1 ∙ c) ∙ sym (append_assoc text given ys) in (
      text ++ h.0,
      length (text ++ given),
      h.2,
      omega (arith, length-append text given, fits),
      ap Some (sym (ap (drop (length (text ++ given))) whole ∙ drop-append_seam (text ++ given) ys)),
    )
  where
    some_is : {zs : List ℕ} → Some xs ≡ Some zs → zs ≡ xs
    some_is e = cc

-- what was read and then not kept is at most one byte past the limit
pub stands_after : {T : Type 0} (o : Option (Option (List ℕ))) (old new : Option (List ℕ)) (text into : List ℕ)
    (n limit : ℕ) (result : Result T InputError)
    → IsErrAnd result (λ e. e ≡ OutOfMemory) → IsReading o text old → Consumes old new (take n into)
    → length text + n ≤ limit + 1 → ReadsTo o limit result new
stands_after None old new text into n limit result is h c fits = tt
stands_after (Some bytes) old new text into n limit (Ok x) is h c fits = absurd is
stands_after (Some bytes) old new text into n limit (Err e) is h c fits =
    rw is (stands bytes old new text (take n into) (limit + 1) h c (omega (arith, length-take {A = ℕ} n into, fits)))
