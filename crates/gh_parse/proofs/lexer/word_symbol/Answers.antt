use Rattle.std.proofs.Common.{refl, sym, ◌∙◌}
use Rattle.gh_parse.proofs.Lexemes.{IsRun, run_stuck, too_long, begins_digit, run_is_word, run_key, run_name}
use Rattle.gh_parse.proofs.lexer.word_symbol.Goals as goal
use Rattle.gh_parse.proofs.lexer.word_symbol.Goals.{then-bytes-gt-LONGEST_WORD-via-then-bytes-gt-LONGEST_WORD}
use Rattle.gh_parse.proofs.lexer.word_symbol.Goals.{then-bytes-gt-LONGEST_WORD-via-else-bytes-gt-LONGEST_WORD+then-is_ascii_digit}

pub returns-then-bytes-gt-LONGEST_WORD : goal.returns-then-bytes-gt-LONGEST_WORD
returns-then-bytes-gt-LONGEST_WORD c =
    let text = c.args.text.now in let n = c.word_length.result in let b = c.args.first in
    let h = c.word_length.ensures in
    let r : IsRun text n b = record {
      first = c.requires.front;
      letter = c.requires.letter;
      within = h.within;
      letters = h.letters;
      ends = h.ends;
    } in
    elim c.then-bytes-gt-LONGEST_WORD.branch [
      | then-bytes-gt-LONGEST_WORD-via-then-bytes-gt-LONGEST_WORD w ↦ run_stuck text n b r
          (too_long text n b r w.if-bytes-gt-LONGEST_WORD.true)
      | then-bytes-gt-LONGEST_WORD-via-else-bytes-gt-LONGEST_WORD+then-is_ascii_digit w ↦ run_stuck text n b r
          (begins_digit text n b r (sym w.is_ascii_digit.ensures.value ∙ w.if-is_ascii_digit.true))
    ]

pub returns-in-Some : goal.returns-in-Some
returns-in-Some c =
    let text = c.args.text.now in let n = c.word_length.result in let b = c.args.first in
    let h = c.word_length.ensures in
    let r : IsRun text n b = record {
      first = c.requires.front;
      letter = c.requires.letter;
      within = h.within;
      letters = h.letters;
      ends = h.ends;
    } in
    run_key text n b c.in-Some.key r c.in-Some.ensures

pub returns-in-None : goal.returns-in-None
returns-in-None c =
    let text = c.args.text.now in let n = c.word_length.result in let b = c.args.first in
    let h = c.word_length.ensures in
    let r : IsRun text n b = record {
      first = c.requires.front;
      letter = c.requires.letter;
      within = h.within;
      letters = h.letters;
      ends = h.ends;
    } in
    let word =
    run_is_word text n b r c.if-bytes-gt-LONGEST_WORD.false
    (sym c.is_ascii_digit.ensures.value ∙ c.if-is_ascii_digit.false) in
    run_name text n b _ r refl word c.in-None.ensures
