use Rattle.std.proofs.Common.{subst, codes}
use Rattle.gh_draw.specs.Reading.{IsFrontRead, ShowsEntries}
use Rattle.gh_draw.proofs.Reader.{word_missing, word_taken}
use Rattle.gh_draw.proofs.Whole.{is_nothing, is_something}
use Rattle.gh_run.proofs.LineLemmas.{no_store_word, no_store_values, more_store_values, store_read}
use Rattle.gh_run.proofs.lines.read_store_line.Goals as goal

pub returns-then-is_none : goal.returns-then-is_none
returns-then-is_none c =
    no_store_word c.args.names.now c.args.cursor.now.text.now c.in-Some.line.now c.take_line.new.cursor.text.now
    c.take.new.self.text.now c.in-Some.ensures
    (word_missing (codes "store") c.in-Some.line.now c.take.new.self.text.now c.take.result c.take.ensures.read
    c.if-is_none.ensures)

pub returns-in_default-2 : goal.returns-in_default-2
returns-in_default-2 c =
    no_store_values c.args.names.now c.args.cursor.now.text.now c.in-Some.line.now c.take_line.new.cursor.text.now
    c.take.new.self.text.now c.read_store.new.cursor.text.now c.in-Some.ensures
    (word_taken (codes "store") c.in-Some.line.now c.take.new.self.text.now c.take.result c.take.ensures.read
    c.if-is_none.ensures)
    (subst (λ o. IsFrontRead (ShowsEntries c.args.names.now) c.take.new.self.text.now c.read_store.new.cursor.text.now
    o) c.in_default-2.is c.in_ok-store.ensures.read)

pub returns-then-not-is_empty : goal.returns-then-not-is_empty
returns-then-not-is_empty c =
    more_store_values c.args.names.now c.args.cursor.now.text.now c.in-Some.line.now c.take_line.new.cursor.text.now
    c.take.new.self.text.now c.read_store.new.cursor.text.now c.in-Some-2.store c.in-Some.ensures
    (word_taken (codes "store") c.in-Some.line.now c.take.new.self.text.now c.take.result c.take.ensures.read
    c.if-is_none.ensures)
    (subst (λ o. IsFrontRead (ShowsEntries c.args.names.now) c.take.new.self.text.now c.read_store.new.cursor.text.now
    o) c.in-Some-2.is c.in_ok-store.ensures.read)
    (is_something c.read_store.new.cursor.text.now c.if-not-is_empty.ensures)

pub returns : goal.returns
returns c =
    store_read c.args.names.now c.args.cursor.now.text.now c.in-Some.line.now c.take_line.new.cursor.text.now
    c.take.new.self.text.now c.read_store.new.cursor.text.now c.in-Some-2.store c.in-Some.ensures
    (word_taken (codes "store") c.in-Some.line.now c.take.new.self.text.now c.take.result c.take.ensures.read
    c.if-is_none.ensures)
    (subst (λ o. IsFrontRead (ShowsEntries c.args.names.now) c.take.new.self.text.now c.read_store.new.cursor.text.now
    o) c.in-Some-2.is c.in_ok-store.ensures.read)
    (is_nothing c.read_store.new.cursor.text.now c.if-not-is_empty.ensures)
