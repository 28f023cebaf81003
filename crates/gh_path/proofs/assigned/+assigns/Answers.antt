use Rattle.std.proofs.Common.{◌∙◌, sym}
use Rattle.std.specs.Str.{bytes_eq}
use Rattle.gh_ast.specs.declared.Occ.{Occ}
use Rattle.gh_ast.proofs.PlainLemmas.{statement_of-Call}
use Rattle.gh_path.proofs.ListLemmas.{any_map}
use Rattle.gh_path.proofs.assigned.+assigns.Goals as goal

pub assigns-returns-in-Call : goal.assigns-returns-in-Call
assigns-returns-in-Call t c =
    let w = c.in-Call in
    rw (w.is, statement_of-Call w.targets w.callee w.arguments)
    ((rw c.as_slice.ensures.value at c.is_among.ensures)
    ∙ sym (any_map (bytes_eq c.args.name.now) (λ (o : Occ). o.name) w.targets.items))
