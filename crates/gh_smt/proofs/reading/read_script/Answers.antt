use Rattle.gh_smt.proofs.ReadingLemmas.{goes_on, read_back, nothing_left, something_left}
use Rattle.gh_smt.proofs.reading.read_script.Goals as goal

pub returns-then-not-is_empty-clause-found : goal.returns-then-not-is_empty-clause-found
returns-then-not-is_empty-clause-found c =
    let rest = c.read_whole.new.reader.rest.now in
    goes_on c.args.text.now c.in-Ok.script rest c.in-Ok.ensures
    (something_left rest c.is_empty.result c.is_empty.ensures c.if-not-is_empty.true)

pub returns-then-not-is_empty-clause-is : goal.returns-then-not-is_empty-clause-is
returns-then-not-is_empty-clause-is c =
    let rest = c.read_whole.new.reader.rest.now in
    goes_on c.args.text.now c.in-Ok.script rest c.in-Ok.ensures
    (something_left rest c.is_empty.result c.is_empty.ensures c.if-not-is_empty.true)

pub returns-then-not-is_empty-clause-back : goal.returns-then-not-is_empty-clause-back
returns-then-not-is_empty-clause-back c p is e =
    let rest = c.read_whole.new.reader.rest.now in
    absurd (goes_on c.args.text.now c.in-Ok.script rest c.in-Ok.ensures
    (something_left rest c.is_empty.result c.is_empty.ensures c.if-not-is_empty.true) p is e)

pub returns-else-not-is_empty-clause-back : goal.returns-else-not-is_empty-clause-back
returns-else-not-is_empty-clause-back c p is e =
    let rest = c.read_whole.new.reader.rest.now in
    read_back c.args.text.now c.in-Ok.script p rest c.in-Ok.ensures
    (nothing_left rest c.is_empty.result c.is_empty.ensures c.if-not-is_empty.false) is e
