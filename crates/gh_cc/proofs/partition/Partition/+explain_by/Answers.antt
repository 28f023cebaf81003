use Rattle.std.proofs.Common.{◌≡◌, ◌-◌, ◌∙◌, sym, arith, ap, ◌∷◌, [], ◌++◌}
use Rattle.gh_base.specs.declared.atom.Lit.{Lit}
use Rattle.gh_cc.specs.Partitions.{rep, ExplainsMore, disequality_of}
use Rattle.gh_cc.proofs.ExplainLemmas.{joins_at, explains_from, explains_to, OnOk_then}
use Rattle.gh_cc.proofs.partition.Partition.+explain_by.Goals as goal

pub explain_by-requires-then-rep-rep_after-2-2 : goal.explain_by-requires-then-rep-rep_after-2-2
explain_by-requires-then-rep-rep_after-2-2 t c =
    let links = c.args.self.now.links in
    let d = c.args.depth in
    let l = c.link-link.result in
    let j = joins_at links d l c.args.a.0 c.args.b.0 _ _ c.if-a-b.false c.requires.same c.rep_after-rep.ensures
    c.rep_after.ensures c.if-rep-rep_after.false c.link-link.ensures.link in
    let from : rep links (d - 1) c.args.a.0 ≡ rep links (d - 1) l.from.0 = sym c.rep_after-rep.ensures
    ∙ c.if-rep-rep_after-2.true ∙ c.rep_after-2.ensures in
    let other = j.from c.link-link.ensures.apart from in
    (omega (arith, j.some), (omega arith, (c.link-link.ensures.to, (c.requires.b, other))))

pub explain_by-requires-else-rep-rep_after-2 : goal.explain_by-requires-else-rep-rep_after-2
explain_by-requires-else-rep-rep_after-2 t c =
    let links = c.args.self.now.links in
    let d = c.args.depth in
    let l = c.link-link.result in
    let j = joins_at links d l c.args.a.0 c.args.b.0 _ _ c.if-a-b.false c.requires.same c.rep_after-rep.ensures
    c.rep_after.ensures c.if-rep-rep_after.false c.link-link.ensures.link in
    let ends = j.to (λ e. c.if-rep-rep_after-2.false (c.rep_after-rep.ensures ∙ e ∙ sym c.rep_after-2.ensures)) in
    (omega (arith, j.some), (omega arith, (c.requires.a, (c.link-link.ensures.to, ends.0))))

pub explain_by-requires-else-rep-rep_after-2-2 : goal.explain_by-requires-else-rep-rep_after-2-2
explain_by-requires-else-rep-rep_after-2-2 t c =
    let links = c.args.self.now.links in
    let d = c.args.depth in
    let l = c.link-link.result in
    let j = joins_at links d l c.args.a.0 c.args.b.0 _ _ c.if-a-b.false c.requires.same c.rep_after-rep.ensures
    c.rep_after.ensures c.if-rep-rep_after.false c.link-link.ensures.link in
    let ends = j.to (λ e. c.if-rep-rep_after-2.false (c.rep_after-rep.ensures ∙ e ∙ sym c.rep_after-2.ensures)) in
    (omega (arith, j.some), (omega arith, (c.link-link.ensures.from, (c.requires.b, ends.1))))

pub returns-in_ok-explain_by : goal.returns-in_ok-explain_by
returns-in_ok-explain_by t c =
    let links = c.args.self.now.links in
    let l = c.link-link.result in
    let pushed : c.push.new.self ≡ c.args.clause.now ++ disequality_of l ∷ [] = c.in_ok-push.ensures.ok
    ∙ ap (λ (x : Lit). c.args.clause.now ++ x ∷ []) c.disequality.ensures in
    let first : ExplainsMore links c.args.a l.from c.push.new.self c.explain_by-then-rep-rep_after-2.new.clause =
    c.in_ok-explain_by.ensures in
    OnOk_then _ c.explain_by-then-rep-rep_after-2-2.ensures
    (λ second. explains_from links (c.args.depth - 1) l c.args.a c.args.b _ _ _ _ c.link-link.ensures.link pushed first
    second)

pub returns-in_ok-explain_by-2 : goal.returns-in_ok-explain_by-2
returns-in_ok-explain_by-2 t c =
    let links = c.args.self.now.links in
    let l = c.link-link.result in
    let pushed : c.push.new.self ≡ c.args.clause.now ++ disequality_of l ∷ [] = c.in_ok-push.ensures.ok
    ∙ ap (λ (x : Lit). c.args.clause.now ++ x ∷ []) c.disequality.ensures in
    let first : ExplainsMore links c.args.a l.to c.push.new.self c.explain_by-else-rep-rep_after-2.new.clause =
    c.in_ok-explain_by-2.ensures in
    OnOk_then _ c.explain_by-else-rep-rep_after-2-2.ensures
    (λ second. explains_to links (c.args.depth - 1) l c.args.a c.args.b _ _ _ _ c.link-link.ensures.link pushed first
    second)
