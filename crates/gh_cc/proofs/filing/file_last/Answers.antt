use Rattle.std.proofs.Common.{◌≡◌, ◌<◌, ◌∙◌, ◌∷◌, ◌++◌, [], ℕ, List, Some, sym, ap, subst, arith, length}
use Rattle.std.specs.Prelude.{slice_get}
use Rattle.gh_base.specs.declared.atom.Term.{Term}
use Rattle.gh_cc.specs.declared.partition.Link.{Link}
use Rattle.gh_cc.specs.Partitions.{Merged}
use Rattle.gh_cc.specs.Uses.{Mentions, IsMoved}
use Rattle.gh_cc.proofs.MoveLemmas.{moved_filed, mentions_long}
use Rattle.gh_base.specs.declared.atom.Lit.{Lit}
use Rattle.gh_cc.specs.Kept.{IsFiled, AllFiled, reps}
use Rattle.gh_cc.proofs.FilingLemmas.{IfNone_then, grows_none}
use Rattle.gh_cc.proofs.TakingLemmas.{taken_more, taken_merge, taken_filed, last_of, last_at, same_equality, same_along}
use Rattle.gh_cc.proofs.filing.file_last.Goals as goal

pub returns-then-rep-clause-tied : goal.returns-then-rep-clause-tied
returns-then-rep-clause-tied c =
    let r = reps c.args.partition.now.links in
    let same : r c.in-Some.a.0 ≡ r c.in-Some.b.0 = sym c.rep.ensures.value ∙ c.if-rep.true
    ∙ c.rep-in-Some.ensures.value in
    taken_more c.args.indexed.now.sizes c.args.indexed.now.lits.now c.args.place c.args.partition.now
    c.args.signatures.now
    c.requires.tied c.requires.last c.requires.in_range
    (λ a b e. let w = same_equality c.in-Some.a c.in-Some.b a b (sym c.in-Some.ensures.some ∙ e) in
    same_along r c.in-Some.a c.in-Some.b a b w.0 w.1 same)

pub returns-then-rep-clause-filed : goal.returns-then-rep-clause-filed
returns-then-rep-clause-filed c =
    let r = reps c.args.partition.now.links in
    let same : r c.in-Some.a.0 ≡ r c.in-Some.b.0 = sym c.rep.ensures.value ∙ c.if-rep.true
    ∙ c.rep-in-Some.ensures.value in
    λ _ before.
    taken_filed c.args.indexed.now.sizes c.args.indexed.now.lits.now c.args.place c.args.partition.now.links
    c.args.signatures.now c.args.signatures.now c.requires.last (grows_none c.args.signatures.now) before
    (subst (λ (l : Lit). IsFiled c.args.indexed.now.sizes c.args.indexed.now.lits.now c.args.partition.now.links
    c.args.signatures.now.entries l) (sym c.in-Some.ensures.some) same)

pub merge_lighter-requires-clause-few : goal.merge_lighter-requires-clause-few
merge_lighter-requires-clause-few c =
    omega (
      arith,
      c.requires.last,
      c.ranges.place.fits,
      ap length c.requires.uses,
      mentions_long c.args.indexed.now.lits.now,
    )

pub returns-then-clashed-clause-tied : goal.returns-then-clashed-clause-tied
returns-then-clashed-clause-tied c =
    taken_merge c.args.indexed.now c.args.place c.args.partition.now c.merge_lighter.new.partition c.args.signatures.now
    c.in-Some.a c.in-Some.b _ _ c.requires.tied c.requires.last c.requires.in_range c.in-Some.ensures.some
    c.rep.ensures.value c.rep-in-Some.ensures.value c.if-rep.false c.merge_lighter.ensures

pub refile_moved-requires-clause-tied : goal.refile_moved-requires-clause-tied
refile_moved-requires-clause-tied c =
    taken_merge c.args.indexed.now c.args.place c.args.partition.now c.merge_lighter.new.partition c.args.signatures.now
    c.in-Some.a c.in-Some.b _ _ c.requires.tied c.requires.last c.requires.in_range c.in-Some.ensures.some
    c.rep.ensures.value c.rep-in-Some.ensures.value c.if-rep.false c.merge_lighter.ensures

pub returns-then-clashed-2-clause-tied : goal.returns-then-clashed-2-clause-tied
returns-then-clashed-2-clause-tied c =
    taken_more c.args.indexed.now.sizes c.args.indexed.now.lits.now c.args.place c.args.partition.now
    c.args.signatures.now
    c.requires.tied c.requires.last c.requires.in_range (λ a b e. absurd (c.in-None.ensures.none a b e))

pub file-requires-clause-tied : goal.file-requires-clause-tied
file-requires-clause-tied c =
    taken_more c.args.indexed.now.sizes c.args.indexed.now.lits.now c.args.place c.args.partition.now
    c.args.signatures.now
    c.requires.tied c.requires.last c.requires.in_range (λ a b e. absurd (c.in-None.ensures.none a b e))

pub returns-else-clashed-2-clause-filed : goal.returns-else-clashed-2-clause-filed
returns-else-clashed-2-clause-filed c =
    IfNone_then c.file.result c.file.ensures.filed (λ here _ before.
    taken_filed c.args.indexed.now.sizes c.args.indexed.now.lits.now c.args.place c.args.partition.now.links
    c.args.signatures.now c.file.new.signatures c.requires.last c.file.ensures.grows before
    (here (last_of c.args.indexed.now.lits.now c.args.place)
    (last_at c.args.indexed.now.lits.now c.args.place c.requires.last)))

pub returns-else-clashed-clause-filed : goal.returns-else-clashed-clause-filed
returns-else-clashed-clause-filed c =
    let m = c.merge_lighter.ensures in
    let f = c.refile_moved.ensures in
    let links : c.merge_lighter.new.partition.links ≡ c.args.partition.now.links ++ m.link ∷ [] =
    ap (λ (p : Merged). p.links) m.merged in
    IfNone_then c.refile_moved.result f.filed (λ anew _ before.
    subst (λ (ls : List Link).
    AllFiled c.args.indexed.now.sizes c.args.indexed.now.lits.now ls c.refile_moved.new.signatures.entries) (sym links)
    (moved_filed c.args.indexed.now.sizes c.args.indexed.now.lits.now c.args.place c.args.partition.now.links m.link
    c.args.signatures.now c.refile_moved.new.signatures c.in-Some.a c.in-Some.b
    c.requires.last c.requires.in_range c.in-Some.ensures.some m.ends f.grows before
    (subst (λ (ls : List Link). (i : ℕ) (k : Lit) (t : Term) → slice_get c.args.indexed.now.lits.now i ≡ Some k
    → Mentions k.atom t → t.0 < c.args.indexed.now.sizes.terms → IsMoved ls t
    → IsFiled c.args.indexed.now.sizes c.args.indexed.now.lits.now ls c.refile_moved.new.signatures.entries k) links
    anew)))
