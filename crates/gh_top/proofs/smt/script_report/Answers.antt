use Rattle.std.proofs.Common.{◌≡◌, ◌<◌, ◌++◌, codes, refl}
use Rattle.std.specs.Fmt.{decimal}
use Rattle.gh_smt.specs.Scripts.{assertion_count}
use Rattle.gh_draw.specs.Descriptions.{place_text}
use Rattle.gh_draw.specs.Drawings.{line}
use Rattle.gh_ast.specs.Plain.{program_of}
use Rattle.gh_path.specs.Kept.{condition_of}
use Rattle.gh_path.proofs.Numbers.{one_is_scoped}
use Rattle.gh_trace.proofs.FirstRefuted.{condition_one}
use Rattle.gh_symb.specs.Symbolic.{symbolic_of}
use Rattle.gh_symb.specs.Formulas.{problem}
use Rattle.gh_top.specs.Smts.{most_asserted}
use Rattle.gh_top.specs.declared.status.Status.TheVariants.{Listed}
use Rattle.gh_top.proofs.SmtLemmas.{is_listed, is_too_long}
use Rattle.gh_top.proofs.smt.script_report.Goals as goal

pub returns-in-Ok : goal.returns-in-Ok
returns-in-Ok c =
    λ proc of.
    let P = program_of c.args.typed.now in
    let d = condition_of c.args.condition.now in
    let is = condition_one P c.args.condition.now c.requires.one in
    let e : c.in_ok-ground.ground ≡ problem (symbolic_of P proc d) =
    c.in_ok-ground.ensures.told P proc d (c.in_ok-symbolic.ensures proc of) in
    is_listed P proc d c.in_ok-ground.ground c.in-Ok.script Listed _ e c.in-Ok.ensures.short c.in-Ok.ensures.is
    (c.in-Ok.ensures.decides P proc d c.requires.admitted.typed is of e) refl c.in_ok-write_script-in-Ok.ensures

pub returns-in-Err-TooLong : goal.returns-in-Err-TooLong
returns-in-Err-TooLong c =
    λ proc of.
    let P = program_of c.args.typed.now in
    let d = condition_of c.args.condition.now in
    let g = c.in_ok-ground.ground in
    let e : g ≡ problem (symbolic_of P proc d) =
    c.in_ok-ground.ensures.told P proc d (c.in_ok-symbolic.ensures proc of) in
    let cause : (c.in-Err-TooLong.count ≡ assertion_count g) × (most_asserted < c.in-Err-TooLong.count) =
    rw c.in-Err-TooLong.field-0-is at c.in-Err-TooLong.ensures.refused in
    let text : c.in_ok-too_long-in-Err-TooLong.field-0.text
    ≡ line (codes "refused: Limit script at " ++ place_text c.place-span.result ++ codes ", count "
    ++ decimal c.in-Err-TooLong.count) =
    c.in_ok-too_long-in-Err-TooLong.ensures.text in
    is_too_long P proc d g c.place-span.result c.in-Err-TooLong.count c.in_ok-too_long-in-Err-TooLong.field-0.status _ e
    cause.0 cause.1 (c.place-span.ensures proc of) c.in_ok-too_long-in-Err-TooLong.ensures.status text

pub place-span-requires : goal.place-span-requires
place-span-requires c =
    one_is_scoped (program_of c.args.typed.now) c.args.condition.now c.requires.admitted.typed c.requires.one
