use Rattle.std.proofs.Common.{subst, codes}
use Rattle.gh_draw.specs.Reading.{IsFrontRead, ShowsEntries, ShowsHeap, heading}
use Rattle.gh_draw.proofs.Reader.{state_no_heading, state_no_store, state_no_word, state_no_cells, word_missing}
use Rattle.gh_draw.proofs.Reader.{word_taken}
use Rattle.gh_draw.proofs.reading.read_state.Goals as goal

pub returns-then-is_none : goal.returns-then-is_none
returns-then-is_none c =
    state_no_heading c.args.names.now c.args.number c.args.cursor.now.text.now c.read_heading.new.cursor.text.now
    (word_missing (heading c.args.number) c.args.cursor.now.text.now c.read_heading.new.cursor.text.now
    c.in_ok-read_heading.field-0 c.in_ok-read_heading.ensures c.if-is_none.ensures)

pub returns-in_default : goal.returns-in_default
returns-in_default c =
    state_no_store c.args.names.now c.args.number c.args.cursor.now.text.now c.read_heading.new.cursor.text.now
    c.read_store.new.cursor.text.now c.read_store.new.cursor.text.now
    (word_taken (heading c.args.number) c.args.cursor.now.text.now c.read_heading.new.cursor.text.now
    c.in_ok-read_heading.field-0 c.in_ok-read_heading.ensures c.if-is_none.ensures)
    (subst (λ o. IsFrontRead (ShowsEntries c.args.names.now) c.read_heading.new.cursor.text.now
    c.read_store.new.cursor.text.now o) c.in_default.is c.in_ok-store.ensures.read)

pub returns-then-is_none-2 : goal.returns-then-is_none-2
returns-then-is_none-2 c =
    state_no_word c.args.names.now c.args.number c.args.cursor.now.text.now c.read_heading.new.cursor.text.now
    c.read_store.new.cursor.text.now c.take.new.self.text.now c.in-Some.store
    (word_taken (heading c.args.number) c.args.cursor.now.text.now c.read_heading.new.cursor.text.now
    c.in_ok-read_heading.field-0 c.in_ok-read_heading.ensures c.if-is_none.ensures)
    (subst (λ o. IsFrontRead (ShowsEntries c.args.names.now) c.read_heading.new.cursor.text.now
    c.read_store.new.cursor.text.now o) c.in-Some.is c.in_ok-store.ensures.read)
    (word_missing (codes "\nheap") c.read_store.new.cursor.text.now c.take.new.self.text.now c.take.result
    c.take.ensures.read c.if-is_none-2.ensures)

pub returns-in_default-2 : goal.returns-in_default-2
returns-in_default-2 c =
    state_no_cells c.args.names.now c.args.number c.args.cursor.now.text.now c.read_heading.new.cursor.text.now
    c.read_store.new.cursor.text.now c.take.new.self.text.now c.read_heap.new.cursor.text.now
    c.read_heap.new.cursor.text.now c.in-Some.store
    (word_taken (heading c.args.number) c.args.cursor.now.text.now c.read_heading.new.cursor.text.now
    c.in_ok-read_heading.field-0 c.in_ok-read_heading.ensures c.if-is_none.ensures)
    (subst (λ o. IsFrontRead (ShowsEntries c.args.names.now) c.read_heading.new.cursor.text.now
    c.read_store.new.cursor.text.now o) c.in-Some.is c.in_ok-store.ensures.read)
    (word_taken (codes "\nheap") c.read_store.new.cursor.text.now c.take.new.self.text.now c.take.result
    c.take.ensures.read c.if-is_none-2.ensures)
    (subst (λ o. IsFrontRead ShowsHeap c.take.new.self.text.now c.read_heap.new.cursor.text.now o) c.in_default-2.is
    c.in_ok-heap.ensures.read)
