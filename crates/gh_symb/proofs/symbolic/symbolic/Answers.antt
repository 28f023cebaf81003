use Rattle.gh_ast.specs.Plain.{program_of}
use Rattle.gh_path.specs.Kept.{condition_of}
use Rattle.gh_symb.specs.Walked.{IsWalked, IsWalkedFar}
use Rattle.gh_symb.proofs.symbolic.symbolic.Goals as goal

pub encode-requires : goal.encode-requires
encode-requires c =
    let P = program_of c.args.typed.now in
    let d = condition_of c.args.condition.now in
    let proc = c.requires.0 in
    let of = c.requires.1 in
    let far : IsWalkedFar P proc d c.in_ok-walked.field-0 = c.in_ok-walked.ensures proc of in
    let walked : IsWalked P proc d c.in-Some.walked = rw c.in-Some.is at far in
    (P, proc, d, record { walked = walked; few = c.in-None.ensures proc of walked.counts_are })
