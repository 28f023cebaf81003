use Rattle.std.proofs.Common.{◌≡◌, ◌∙◌, ◌∷◌, [], ◌++◌, ℕ, List, length, sym, ap, subst, arith}
use Rattle.gh_base.specs.declared.atom.Lit.{Lit}
use Rattle.gh_base.specs.Atoms.{AreInRange}
use Rattle.gh_cc.specs.Kept.{first_clash}
use Rattle.gh_cc.specs.declared.classes.Stage.{Stage}
use Rattle.gh_cc.specs.Uses.{Mentioned}
use Rattle.gh_cc.specs.Fields.{core_of}
use Rattle.gh_cc.proofs.KeptLemmas.{now_of}
use Rattle.gh_cc.proofs.AssertLemmas.{kept_assert, tied_now, front_is, taken_in, kept_along, more_core}
use Rattle.gh_cc.proofs.MoreLemmas.{may_assert, mentions_fit, mentions_more}
use Rattle.gh_cc.proofs.classes.Classes.assert.Goals as goal

abbrev stage_of : ℕ → ℕ → Stage
stage_of depth entries = record { depth = depth; entries = entries }

pub push_reserved-requires : goal.push_reserved-requires
push_reserved-requires c =
    let m = may_assert c.self.inside c.args.lit _ c.self.view_is c.self.invariant.0 c.requires.in_range
    c.requires.free in
    omega (arith, m.few, m.long, m.kept.staged, c.self.invariant.2.2)

pub push_reserved-requires-2 : goal.push_reserved-requires-2
push_reserved-requires-2 c =
    let m = may_assert c.self.inside c.args.lit _ c.self.view_is c.self.invariant.0 c.requires.in_range
    c.requires.free in
    omega (arith, m.few, m.long, c.self.invariant.2.1)

pub file_last-found-requires-clause-tied : goal.file_last-found-requires-clause-tied
file_last-found-requires-clause-tied c =
    let i = c.self.inside in
    let place : c.len-place.result ≡ length c.self.inside.lits.items = omega arith in
    let whole : c.as_slice.result.now ≡ c.self.inside.lits.items ++ c.args.lit ∷ [] =
    c.as_slice.ensures.value ∙ c.push_reserved-2.ensures.items in
    rw (front_is i.lits.items c.as_slice.result.now c.args.lit c.len-place.result whole place)
    (record {
      in_range = c.self.invariant.0.in_range;
      terms = c.self.invariant.1.0;
      merges = c.depth.ensures.merges;
      count = c.self.invariant.1.1;
      few = omega (arith, c.self.invariant.2.0);
      state = tied_now (core_of i) c.self.invariant.0;
    })

pub file_last-found-requires-clause-in_range : goal.file_last-found-requires-clause-in_range
file_last-found-requires-clause-in_range c =
    let m = may_assert c.self.inside c.args.lit _ c.self.view_is c.self.invariant.0 c.requires.in_range
    c.requires.free in
    let whole : c.as_slice.result.now ≡ c.self.inside.lits.items ++ c.args.lit ∷ [] =
    c.as_slice.ensures.value ∙ c.push_reserved-2.ensures.items in
    subst (λ (ls : List Lit). AreInRange c.self.inside.sizes ls) (sym whole) m.in_range

pub mention-requires-clause-room : goal.mention-requires-clause-room
mention-requires-clause-room c =
    let m = may_assert c.self.inside c.args.lit _ c.self.view_is c.self.invariant.0 c.requires.in_range
    c.requires.free in
    let fit = mentions_fit (core_of c.self.inside) c.args.lit c.self.inside.uses.list m c.self.invariant.3 in
    omega (arith, fit, c.self.invariant.2.3)

pub mention-requires-clause-small : goal.mention-requires-clause-small
mention-requires-clause-small c =
    let m = may_assert c.self.inside c.args.lit _ c.self.view_is c.self.invariant.0 c.requires.in_range
    c.requires.free in
    let fit = mentions_fit (core_of c.self.inside) c.args.lit c.self.inside.uses.list m c.self.invariant.3 in
    omega (arith, fit, c.self.invariant.2.0)

pub file_last-found-requires-clause-uses : goal.file_last-found-requires-clause-uses
file_last-found-requires-clause-uses c =
    let whole : c.as_slice.result.now ≡ c.self.inside.lits.items ++ c.args.lit ∷ [] =
    c.as_slice.ensures.value ∙ c.push_reserved-2.ensures.items in
    mentions_more c.self.inside.lits.items c.as_slice.result.now c.args.lit c.self.inside.uses c.mention.new.uses
    c.self.invariant.3 c.mention.ensures whole

pub file_last-found-requires-clause-mentioned : goal.file_last-found-requires-clause-mentioned
file_last-found-requires-clause-mentioned c = ap (λ (u : Mentioned). u.terms) c.mention.ensures ∙ c.self.invariant.1.2

pub invariant_of-self : goal.invariant_of-self
invariant_of-self c =
    let i = c.self.inside in
    let core = core_of i in
    let m = may_assert c.self.inside c.args.lit _ c.self.view_is c.self.invariant.0 c.requires.in_range
    c.requires.free in
    let place : c.len-place.result ≡ length c.self.inside.lits.items = omega arith in
    let whole : c.as_slice.result.now ≡ c.self.inside.lits.items ++ c.args.lit ∷ [] =
    c.as_slice.ensures.value ∙ c.push_reserved-2.ensures.items in
    let t = c.file_last-found.ensures in
    let taken = taken_in core c.args.lit c.as_slice.result.now c.len-place.result i.partition
    c.file_last-found.new.partition
    c.file_last-found.new.signatures c.file_last-found.result c.is_some-clashed.result
    whole place c.is_some-clashed.ensures m.kept t.tied t.links t.grows.added t.grows.more t.filed t.clash in
    let now =
    kept_assert core c.args.lit c.file_last-found.new.partition c.file_last-found.new.signatures
    c.file_last-found.result
    m.kept m.inside m.free taken in
    let stage : c.push_reserved.new.self.items ≡ core.stages ++ now_of core ∷ [] =
    c.push_reserved.ensures.items ∙ ap (λ (d : ℕ). core.stages ++ stage_of d c.len.result ∷ []) c.depth.ensures.depth
    ∙ ap (λ (n : ℕ). core.stages ++ stage_of (length core.links) n ∷ []) c.len.ensures.len in
    let clash : c.first_clash-self-inside.result ≡ first_clash core.clash (length core.lits) c.file_last-found.result =
    c.first_clash-self-inside.ensures ∙ ap (λ (n : ℕ). first_clash core.clash n c.file_last-found.result) place in (
      kept_along (more_core core c.args.lit c.file_last-found.new.partition c.file_last-found.new.signatures
          c.file_last-found.result)
          _ _ _ _ _ now c.push_reserved-2.ensures.items stage (λ _. c.file_last-found.new.partition.links)
          (λ _. c.file_last-found.new.signatures.entries) clash,
      (t.tied.terms, t.tied.count, ap (λ (u : Mentioned). u.terms) c.mention.ensures ∙ c.self.invariant.1.2),
      (
        c.self.invariant.2.0,
        omega (arith, c.push_reserved-2.ensures.capacity, c.self.invariant.2.1),
        omega (arith, c.push_reserved.ensures.capacity, c.self.invariant.2.2),
        omega (arith, ap (λ (u : Mentioned). u.room) c.mention.ensures, c.self.invariant.2.3),
      ),
      mentions_more core.lits c.push_reserved-2.new.self.items c.args.lit i.uses c.mention.new.uses
          c.self.invariant.3 c.mention.ensures c.push_reserved-2.ensures.items,
    )
