use Rattle.std.proofs.Common.{◌++◌}
use Rattle.gh_smt.specs.Texts.{between_declared, hop_declared, alloc_declared}
use Rattle.gh_smt.proofs.DeclaredLemmas.{no_first, no_second, three_texts}
use Rattle.gh_log.proofs.Exits.{exit}
use Rattle.gh_smt.proofs.reading.take_relations.Goals as goal

pub returns-in_err-take_around : goal.returns-in_err-take_around
returns-in_err-take_around c =
    let n = c.args.number in
    exit _ _ _ _ _ _ (no_first (between_declared n) (hop_declared n ++ alloc_declared n) c.args.reader.now.rest.now)
    c.in_err-take_around.ensures c.from_residual.ensures.1

pub returns-in_err-take_around-2 : goal.returns-in_err-take_around-2
returns-in_err-take_around-2 c =
    let n = c.args.number in
    exit _ _ _ _ _ _ (λ h. no_second (between_declared n) (hop_declared n ++ alloc_declared n)
    c.args.reader.now.rest.now c.take_around.new.reader.rest.now c.in_ok-take_around.ensures
    (no_first (hop_declared n) (alloc_declared n) c.take_around.new.reader.rest.now h)) c.in_err-take_around-2.ensures
    c.from_residual-in_err-take_around-2.ensures.1

pub returns-in_err-take_around-3 : goal.returns-in_err-take_around-3
returns-in_err-take_around-3 c =
    let n = c.args.number in
    exit _ _ _ _ _ _ (λ h. no_second (between_declared n) (hop_declared n ++ alloc_declared n)
    c.args.reader.now.rest.now c.take_around.new.reader.rest.now c.in_ok-take_around.ensures
    (no_second (hop_declared n) (alloc_declared n) c.take_around.new.reader.rest.now c.take_around-2.new.reader.rest.now
    c.in_ok-take_around-2.ensures h)) c.in_err-take_around-3.ensures c.from_residual-in_err-take_around-3.ensures.1

pub returns : goal.returns
returns c =
    let n = c.args.number in
    three_texts (between_declared n) (hop_declared n) (alloc_declared n) c.args.reader.now.rest.now
    c.take_around.new.reader.rest.now c.take_around-2.new.reader.rest.now c.take_around-3.new.reader.rest.now
    c.in_ok-take_around.ensures c.in_ok-take_around-2.ensures
    c.in_ok-take_around-3.ensures
