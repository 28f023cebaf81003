use Rattle.std.proofs.Common.{◌≡◌, arith, length, sym, subst}
use Rattle.gh_base.specs.Meaning.{IsLitTrue}
use Rattle.gh_base.specs.Structures.{interpretation_of}
use Rattle.gh_inst.specs.Search.{IsAmong}
use Rattle.gh_inst.proofs.SearchLemmas.{weaker, terms_there, same_lit, same_alone}
use Rattle.gh_inst.proofs.schema.Pattern.is_always_true.Goals as goal

pub is_true-requires : goal.is_true-requires
is_true-requires c =
    let p = c.args.self in
    let among : IsAmong c.args.first p = c.is_among.ensures.0 c.if-is_among.true in
    let three : length p.places ≡ 3 = search in
    record {
      version = c.requires.version_there;
      variables = weaker c.args.first 4 p c.requires.few among;
      terms =
          terms_there c.args.first c.args.structure.now.sizes.terms c.args.tuple.now p among three (omega arith)
          c.requires.below;
    }

pub returns-then-is_among-clause-always : goal.returns-then-is_among-clause-always
returns-then-is_among-clause-always c = λ holds rest.
    let p = c.args.self in
    let among : IsAmong c.args.first p = c.is_among.ensures.0 c.if-is_among.true in
    let three : length p.places ≡ 3 = search in
    subst (IsLitTrue (interpretation_of c.args.structure.now))
    (sym (same_lit c.args.version c.args.first c.args.tuple.now rest p among three (omega arith)))
    (c.is_true.ensures.0 holds)

pub returns-then-is_among-clause-open : goal.returns-then-is_among-clause-open
returns-then-is_among-clause-open c = λ fails among holds.
    let p = c.args.self in
    let three : length p.places ≡ 3 = search in
    fails (c.is_true.ensures.1
    (subst (IsLitTrue (interpretation_of c.args.structure.now))
    (same_alone c.args.version c.args.first c.args.tuple.now p among three (omega arith)) holds))
