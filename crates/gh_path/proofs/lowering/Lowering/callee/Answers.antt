use Rattle.std.proofs.Common.{Bool, true, false, ◌≡◌, ◌∙◌, ◌<◌, map, length, ap, sym, arith}
use Rattle.std.proofs.lemmas.List.{length-map}
use Rattle.gh_ast.specs.Plain.{procedure_of}
use Rattle.gh_path.specs.Graphs.{number_of}
use Rattle.gh_path.specs.Lowered.{program_in}
use Rattle.gh_path.proofs.CalleeLemmas.{number_in, number_at, number_past}
use Rattle.gh_path.proofs.lowering.Lowering.callee.Goals as goal

not_both : (b : Bool) → b ≡ false → b ≡ true → ⊥
not_both b none some = absurd cc

pub loop-place-init : goal.loop-place-init
loop-place-init c = omega arith

pub overflow_cast-result : goal.overflow_cast-result
overflow_cast-result c =
    let P = program_in c.args.self.now in
    let ps = c.as_slice-procedures.result.now in
    let same : P.procedures ≡ map procedure_of ps = sym (ap (map procedure_of) c.as_slice-procedures.ensures.value) in
    let long : length P.procedures ≡ length ps = ap length same ∙ length-map ps procedure_of in
    omega (arith, long, c.loop-place-test.true, c.requires.few)

pub returns-then-is_named : goal.returns-then-is_named
returns-then-is_named c =
    let P = program_in c.args.self.now in
    let ps = c.as_slice-procedures.result.now in
    let f = c.args.callee.now.name in
    let same : P.procedures ≡ map procedure_of ps = sym (ap (map procedure_of) c.as_slice-procedures.ensures.value) in
    number_at ps f c.loop-place.place c.index-procedures-place.result c.loop-place-test.true c.index-procedures-place.is
    c.loop-place.invariant
    (c.is_named.ensures.0 c.if-is_named.true ∙ c.bytes-name.ensures.text)
    ∙ ap (λ qs. number_in qs f) (sym same)

pub unreachable-requires : goal.unreachable-requires
unreachable-requires c =
    let P = program_in c.args.self.now in
    let ps = c.as_slice-procedures.result.now in
    let f = c.args.callee.now.name in
    let same : P.procedures ≡ map procedure_of ps = sym (ap (map procedure_of) c.as_slice-procedures.ensures.value) in
    let long : length P.procedures ≡ length ps = ap length same ∙ length-map ps procedure_of in
    let number : number_of P f ≡ number_in (map procedure_of ps) f = ap (λ qs. number_in qs f) same in
    let known : number_of P f < length P.procedures = c.requires.known in
    absurd (omega (arith, long, number, known, c.loop-place.invariant, c.loop-place-test.false))

pub loop-place-preserved : goal.loop-place-preserved
loop-place-preserved c =
    let ps = c.as_slice-procedures.result.now in
    let f = c.args.callee.now.name in
    let text : c.bytes-name.result.now ≡ f = c.bytes-name.ensures.text in
    number_past ps f c.loop-place.place c.index-procedures-place.result c.loop-place-test.true
    c.index-procedures-place.is c.loop-place.invariant
    (λ named. not_both c.is_named.result c.if-is_named.false (c.is_named.ensures.1 (named ∙ sym text)))
