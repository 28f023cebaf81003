use Rattle.std.proofs.Common.{None, ◌≡◌, ◌<◌, ◌∙◌, refl, sym, ap, subst, codes, length}
use Rattle.gh_draw.specs.Reading.{IsFrontRead, ShowsState, ShowsStates}
use Rattle.gh_draw.proofs.Going.{Goes}
use Rattle.gh_draw.proofs.Reader.{states_more, states_missing, states_end, word_missing, word_taken, missing_stays}
use Rattle.gh_draw.proofs.Shown.{state_shorter}
use Rattle.gh_draw.proofs.reading.read_states.Goals as goal

pub returns-in_default : goal.returns-in_default
returns-in_default c =
    let stays =
    missing_stays (c.take.new.self.text.now ≡ c.states.cursor.text.now) c.take.result c.states-test.ensures
    c.take.ensures.stays in
    let none =
    word_missing (codes "end\n") c.states.cursor.text.now c.take.new.self.text.now c.take.result c.take.ensures.read
    c.states-test.ensures in
    let count = ap length c.as_slice-number.ensures.value in
    states_missing c.args.names.now (length c.states.states.items) c.take.new.self.text.now c.args.cursor.now.text.now
    c.read_state.new.cursor.text.now c.states.states.items
    (subst (λ z. Goes (ShowsStates c.args.names.now (length c.states.states.items) z)
    (ShowsStates c.args.names.now 0 c.args.cursor.now.text.now) c.states.states.items) (sym stays)
    c.states.invariant) (λ r e. none tt r (sym stays ∙ e))
    (subst (λ k. IsFrontRead (ShowsState c.args.names.now k) c.take.new.self.text.now c.read_state.new.cursor.text.now
    None) count
    (subst (λ o. IsFrontRead (ShowsState c.args.names.now (length c.as_slice-number.result.now))
    c.take.new.self.text.now c.read_state.new.cursor.text.now o) c.in_default.is c.in_ok-state.ensures))

pub states-smaller : goal.states-smaller
states-smaller c =
    let stays =
    missing_stays (c.take.new.self.text.now ≡ c.states.cursor.text.now) c.take.result c.states-test.ensures
    c.take.ensures.stays in
    let shown = subst (λ o. IsFrontRead (ShowsState c.args.names.now (length c.as_slice-number.result.now))
    c.take.new.self.text.now c.read_state.new.cursor.text.now o) c.in-Some.is c.in_ok-state.ensures in
    subst (λ z. length c.read_state.new.cursor.text.now < length z) stays
    (state_shorter c.args.names.now (length c.as_slice-number.result.now) c.take.new.self.text.now c.in-Some.state
    c.read_state.new.cursor.text.now shown)

pub states-preserved : goal.states-preserved
states-preserved c =
    let stays =
    missing_stays (c.take.new.self.text.now ≡ c.states.cursor.text.now) c.take.result c.states-test.ensures
    c.take.ensures.stays in
    let none =
    word_missing (codes "end\n") c.states.cursor.text.now c.take.new.self.text.now c.take.result c.take.ensures.read
    c.states-test.ensures in
    let shown = subst (λ o. IsFrontRead (ShowsState c.args.names.now (length c.as_slice-number.result.now))
    c.take.new.self.text.now c.read_state.new.cursor.text.now o) c.in-Some.is c.in_ok-state.ensures in
    let count = ap length c.as_slice-number.ensures.value in
    states_more c.args.names.now (length c.states.states.items) (length c.push.new.self.items) c.in-Some.state
    c.take.new.self.text.now c.read_state.new.cursor.text.now c.args.cursor.now.text.now c.states.states.items
    c.push.new.self.items
    refl (subst (λ z. Goes (ShowsStates c.args.names.now (length c.states.states.items) z)
    (ShowsStates c.args.names.now 0 c.args.cursor.now.text.now) c.states.states.items) (sym stays)
    c.states.invariant)
    (λ r e. none tt r (sym stays ∙ e))
    (subst (λ k. ShowsState c.args.names.now k c.take.new.self.text.now c.in-Some.state
    c.read_state.new.cursor.text.now) count shown) c.in_ok-push.ensures.items refl

pub returns : goal.returns
returns c =
    states_end c.args.names.now (length c.states.states.items) c.states.cursor.text.now c.args.cursor.now.text.now
    c.take.new.self.text.now c.states.states.items c.states.invariant
    (word_taken (codes "end\n") c.states.cursor.text.now c.take.new.self.text.now c.take.result c.take.ensures.read
    c.states-test.ensures)
