use Rattle.std.proofs.Common.{ℕ, Bool, List, ◌≡◌, ◌≤◌, sym, subst, arith}
use Rattle.std.specs.Int.{from_bool}
use Rattle.gh_parse.specs.Scanning.{cleared_from}
use Rattle.gh_parse.specs.declared.scan.Cleared.{Cleared}
use Rattle.gh_parse.proofs.Scanning.{roomy, next_of, scan_deep, scan_next, from_bool_small}
use Rattle.gh_parse.proofs.scan.deep_bracket.Goals as goal

abbrev left : Cleared → List ℕ
left s = cleared_from s.in_comment s.rest.now

at_most_one : (n : ℕ) (b : Bool) → n ≡ from_bool b → n ≤ 1
at_most_one n b e = subst (λ m. m ≤ 1) (sym e) (from_bool_small b)

pub overflow_add-opened : goal.overflow_add-opened
overflow_add-opened c =
    let i = c.loop-byte in
    let r =
    roomy c.args.text.now i.yielded (left i.byte-iterator) (left c.next.new.self) i.place i.opened i.closed
    c.in-Some.byte i.invariant.scan c.in-Some.ensures.steps in
    let one = at_most_one c.from-opened.result c.opens.result c.from-opened.ensures in omega arith

pub overflow_add-closed : goal.overflow_add-closed
overflow_add-closed c =
    let i = c.loop-byte in
    let r =
    roomy c.args.text.now i.yielded (left i.byte-iterator) (left c.next.new.self) i.place i.opened i.closed
    c.in-Some.byte i.invariant.scan c.in-Some.ensures.steps in
    let one = at_most_one c.from-closed.result c.closes.result c.from-closed.ensures in omega arith

pub overflow_add-closed-in-loop-byte : goal.overflow_add-closed-in-loop-byte
overflow_add-closed-in-loop-byte c =
    let i = c.loop-byte in
    let r =
    roomy c.args.text.now i.yielded (left i.byte-iterator) (left c.next.new.self) i.place i.opened i.closed
    c.in-Some.byte i.invariant.scan c.in-Some.ensures.steps in
    let one = at_most_one c.from-closed.result c.closes.result c.from-closed.ensures in omega arith

pub returns-then-opened-closed : goal.returns-then-opened-closed
returns-then-opened-closed c =
    let i = c.loop-byte in
    let text = c.args.text.now in
    let b = c.in-Some.byte in
    let before = left i.byte-iterator in
    let after = left c.next.new.self in
    let steps = c.in-Some.ensures.steps in
    let n =
    next_of text i.yielded before after i.place i.opened i.closed b c.from-opened.result c.from-closed.result
    c.opens.result c.closes.result i.invariant.scan steps
    c.from-opened.ensures c.opens.ensures c.from-closed.ensures c.closes.ensures in
    scan_deep text i.yielded before after i.place i.opened i.closed b _ _ i.invariant.scan steps n
    c.if-opened-closed.true

pub after_byte-place-requires-clause-line : goal.after_byte-place-requires-clause-line
after_byte-place-requires-clause-line c =
    let i = c.loop-byte in
    let r =
    roomy c.args.text.now i.yielded (left i.byte-iterator) (left c.next.new.self) i.place i.opened i.closed
    c.in-Some.byte i.invariant.scan c.in-Some.ensures.steps in
    omega arith

pub after_byte-place-requires-clause-col : goal.after_byte-place-requires-clause-col
after_byte-place-requires-clause-col c =
    let i = c.loop-byte in
    let r =
    roomy c.args.text.now i.yielded (left i.byte-iterator) (left c.next.new.self) i.place i.opened i.closed
    c.in-Some.byte i.invariant.scan c.in-Some.ensures.steps in
    omega arith

pub loop-byte-preserved : goal.loop-byte-preserved
loop-byte-preserved c =
    let i = c.loop-byte in
    let text = c.args.text.now in
    let b = c.in-Some.byte in
    let before = left i.byte-iterator in
    let after = left c.next.new.self in
    let steps = c.in-Some.ensures.steps in
    let n =
    next_of text i.yielded before after i.place i.opened i.closed b c.from-opened.result c.from-closed.result
    c.opens.result c.closes.result i.invariant.scan steps
    c.from-opened.ensures c.opens.ensures c.from-closed.ensures c.closes.ensures in
    record {
      next = tt;
      scan = scan_next text i.yielded before after i.place c.after_byte-place.result i.opened i.closed b _ _
          i.invariant.scan n c.if-opened-closed.false c.after_byte-place.ensures;
    }
