-- What is answered in a mode.
use Rattle.std.specs.Prelude.{◌≡◌, ℕ, List, Bool, true, false, Some}
use Rattle.gh_top.specs.Headline.{Files, Answer, IsGoodFor}
use Rattle.gh_top.specs.declared.status.Status.{Status}
use Rattle.gh_top.specs.declared.status.Status.TheVariants.{Verified, Listed, Ran, Refuted, Usage, ReadFault}
use Rattle.gh_top.specs.declared.status.Status.TheVariants.{TextRefused, LogRefused, WriteFault, OutOfMemory, Stopped}
use Rattle.gh_top.specs.declared.status.Status.TheVariants.{Unmet}
use Rattle.gh_page.specs.Modes.{words_of, is_on_two}
use Rattle.gh_page.specs.declared.reply.Reply.{Reply}

-- a run that ends so has written its answer whole
abbrev pub is_answer : Status → Bool
is_answer Verified = true
is_answer Listed = true
is_answer Ran = true
is_answer Refuted = true
is_answer Usage = true
is_answer ReadFault = false
is_answer TextRefused = true
is_answer LogRefused = true
is_answer WriteFault = false
is_answer OutOfMemory = false
is_answer Stopped = true
is_answer Unmet = true

-- the reply is the answer to the mode's words, where the first file holds one text and the second the other; a program
-- that is verified is good
pub record IsAnswerTo (mode : ℕ) (text second : List ℕ) (r : Reply) : Type 0 where
  pub files : Files
  pub first_is : files 1 ≡ Some text
  pub second_is : is_on_two mode ≡ true → files 2 ≡ Some second
  pub answer : Answer (words_of mode) files r.status r.text
  pub good : r.status ≡ Verified → IsGoodFor (words_of mode) files
