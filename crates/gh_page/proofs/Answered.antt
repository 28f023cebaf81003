-- Runs that end with an answer.
use Rattle.std.specs.Prelude.{◌≡◌, ℕ, List, [], ◌∷◌, ◌++◌, true, Option, Some, None, slice_get, codes}
use Rattle.std.proofs.Common.{refl, sym, ap, subst}
use Rattle.std.specs.Io.KnownBytes.{Appends}
use Rattle.gh_top.specs.Headline.{IsAnswered, IsWrittenWhole, Answer}
use Rattle.gh_base.specs.Outside.{Table}
use Rattle.gh_top.specs.Seen.{Outside, InputsTold, Writing, table_of}
use Rattle.gh_top.specs.declared.status.Status.{Status}
use Rattle.gh_top.specs.declared.status.Status.TheVariants.{Verified, Listed, Ran, Refuted, Usage, ReadFault}
use Rattle.gh_top.specs.declared.status.Status.TheVariants.{TextRefused, LogRefused, WriteFault, OutOfMemory, Stopped}
use Rattle.gh_top.specs.declared.status.Status.TheVariants.{Unmet}
use Rattle.gh_page.specs.Answering.{IsAnswerTo, is_answer}
use Rattle.gh_page.specs.Modes.{words_of, word_of, second_word, is_on_two, table_over}
use Rattle.gh_page.specs.declared.reply.Reply.{Reply}

-- an answer is written whole
whole : (words : List (List ℕ)) (o : Outside) (s : Status) → is_answer s ≡ true → IsAnswered words o s
    → IsWrittenWhole (table_of o) words o.writing s
whole words o Verified is w = w
whole words o Listed is w = w
whole words o Ran is w = w
whole words o Refuted is w = w
whole words o Usage is w = w
whole words o ReadFault is w = absurd cc
whole words o TextRefused is w = w
whole words o LogRefused is w = w
whole words o WriteFault is w = absurd cc
whole words o OutOfMemory is w = absurd cc
whole words o Stopped is w = w
whole words o Unmet is w = w

-- what was written over two texts, with nothing written before
over : (mode : ℕ) (text second : List ℕ) (w : Writing) (r : Reply) → w.before.written ≡ Some []
    → w.after.written ≡ Some r.text → IsWrittenWhole (Some (table_over text second)) (words_of mode) w r.status
    → IsAnswerTo mode text second r
over mode text second w r before after is =
    let one : ◌≡◌ {A = List ℕ} r.text is.text =
    subst (λ x. Appends x (Some r.text) is.text) before
    (subst (λ x. Appends w.before.written x is.text) after is.written) in
    record {
      files = is.given.files;
      first_is = is.given.told 1 (codes "program") refl;
      second_is =
          λ on. is.given.told 2 (codes "second")
          (ap (λ b. slice_get (word_of mode ∷ codes "program" ∷ second_word b) 2) on);
      answer = subst (Answer (words_of mode) is.given.files r.status) (sym one) is.given.answer;
      good = is.good;
    }

-- what is told of the outside where only the table of the inputs counts
abbrev outside : Option Table → Writing → Outside
outside table w =
    let told : InputsTold = record { table = table; names = None; calls = None; faults = 0 } in
    record { reading = record { before = told; after = told }; writing = w }

pub answered : (mode : ℕ) (text second : List ℕ) (words : List (List ℕ)) (table : Option Table) (w : Writing)
    (s : Status) (r : Reply) → words ≡ words_of mode → table ≡ Some (table_over text second)
    → w.before.written ≡ Some [] → w.after.written ≡ Some r.text → r.status ≡ s → is_answer s ≡ true
    → IsAnswered words (outside table w) s → IsAnswerTo mode text second r
answered mode text second words table w s r are told before after status done is =
    over mode text second w r before after
    (subst (λ x. IsWrittenWhole (Some (table_over text second)) (words_of mode) w x) (sym status)
    (subst (λ t. IsWrittenWhole t (words_of mode) w s) told
    (subst (λ ws. IsWrittenWhole table ws w s) are (whole words (outside table w) s done is))))
