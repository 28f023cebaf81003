use Rattle.std.proofs.Common.{◌≡◌, ◌∙◌, ℕ, sym, ap, subst}
use Rattle.gh_base.specs.declared.atom.Atom.{Atom}
use Rattle.gh_base.specs.declared.atom.Atom.TheVariants.{Btwn, Hop}
use Rattle.gh_base.specs.Atoms.{IsInRange}
use Rattle.gh_cc.specs.Partitions.{ExplainsMore}
use Rattle.gh_cc.specs.Kept.{normal, reps, ExplainsAtoms}
use Rattle.gh_cc.proofs.ExplainLemmas.{OnOk_then}
use Rattle.gh_cc.proofs.RefuteLemmas.{btwn_parts, hop_parts, explains_btwn, explains_hop}
use Rattle.gh_cc.proofs.refuting.explain_atoms.Goals as goal

pub returns-in_ok-explain-in-Btwn-b-2 : goal.returns-in_ok-explain-in-Btwn-b-2
returns-in_ok-explain-in-Btwn-b-2 c =
    let s = c.args.sizes in
    let links = c.args.partition.now.links in
    let i = c.in-Btwn in
    let j = c.in-Btwn-b in
    let same : normal (reps links) (Btwn i.version i.x i.y i.z) ≡ normal (reps links) (Btwn j.version j.p j.q j.r) =
    ap (normal (reps links)) (sym i.is) ∙ c.requires.same ∙ ap (normal (reps links)) j.is in
    let parts = btwn_parts (reps links) i.version j.version i.x i.y i.z j.p j.q j.r same in
    let b_is : c.args.b ≡ Btwn i.version j.p j.q j.r = j.is ∙ ap (λ (v : ℕ). Btwn v j.p j.q j.r) (sym parts.0) in
    let first : ExplainsMore links i.x j.p c.args.clause.now c.explain.new.clause = c.in_ok-explain-in-Btwn-b.ensures in
    let second : ExplainsMore links i.y j.q c.explain.new.clause c.explain-in-Btwn-b.new.clause =
    c.in_ok-explain-in-Btwn-b-2.ensures in
    OnOk_then c.explain-in-Btwn-b-2.result c.explain-in-Btwn-b-2.ensures (λ third.
    subst (λ (a : Atom). ExplainsAtoms s links a c.args.b c.args.clause.now c.explain-in-Btwn-b-2.new.clause) (sym i.is)
    (subst (λ (b : Atom).
    ExplainsAtoms s links (Btwn i.version i.x i.y i.z) b c.args.clause.now c.explain-in-Btwn-b-2.new.clause) (sym b_is)
    (explains_btwn s links i.version i.x i.y i.z j.p j.q j.r _ _ _ _ (subst (IsInRange s) i.is c.requires.a)
    (subst (IsInRange s) b_is c.requires.b) first second third)))

pub returns-in_ok-explain-in-Hop-b : goal.returns-in_ok-explain-in-Hop-b
returns-in_ok-explain-in-Hop-b c =
    let s = c.args.sizes in
    let links = c.args.partition.now.links in
    let i = c.in-Hop in
    let j = c.in-Hop-b in
    let same : normal (reps links) (Hop i.version i.x i.v) ≡ normal (reps links) (Hop j.version j.p j.q) =
    ap (normal (reps links)) (sym i.is) ∙ c.requires.same ∙ ap (normal (reps links)) j.is in
    let parts = hop_parts (reps links) i.version j.version i.x i.v j.p j.q same in
    let b_is : c.args.b ≡ Hop i.version j.p j.q = j.is ∙ ap (λ (v : ℕ). Hop v j.p j.q) (sym parts.0) in
    let first : ExplainsMore links i.x j.p c.args.clause.now c.explain-in-Hop-b.new.clause =
    c.in_ok-explain-in-Hop-b.ensures in
    OnOk_then c.explain-in-Hop-b-2.result c.explain-in-Hop-b-2.ensures (λ second.
    subst (λ (a : Atom). ExplainsAtoms s links a c.args.b c.args.clause.now c.explain-in-Hop-b-2.new.clause) (sym i.is)
    (subst (λ (b : Atom).
    ExplainsAtoms s links (Hop i.version i.x i.v) b c.args.clause.now c.explain-in-Hop-b-2.new.clause) (sym b_is)
    (explains_hop s links i.version i.x i.v j.p j.q _ _ _ (subst (IsInRange s) i.is c.requires.a)
    (subst (IsInRange s) b_is c.requires.b) first second)))
