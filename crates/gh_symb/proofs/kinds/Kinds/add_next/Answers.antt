use Rattle.std.proofs.Common.{◌≡◌, ◌∙◌, sym, ap, subst, map, true, false, ◌++◌, ◌∷◌, [], refl}
use Rattle.std.specs.List.{list_any}
use Rattle.std.proofs.lemmas.List.{map-append}
use Rattle.gh_path.specs.Terms.{same_kind, next, added}
use Rattle.gh_symb.specs.Tables.{kind_of, AreListed}
use Rattle.gh_symb.specs.declared.kinds.Kind.TheVariants.{Next}
use Rattle.gh_symb.proofs.KindLemmas.{next_listed}
use Rattle.gh_path.proofs.ListLemmas.{any_map}
use Rattle.gh_symb.proofs.kinds.Kinds.add_next.Goals as goal

pub returns-then-has_next : goal.returns-then-has_next
returns-then-has_next c =
    let items = c.self.inside.kinds.items in
    let k = next c.args.version c.args.of in
    let any : list_any (same_kind k) (map kind_of items) ≡ true =
    any_map (same_kind k) kind_of items ∙ sym (rw (c.as_slice.ensures.value) at c.if-has_next.ensures) in
    let listed : list_any (same_kind k) c.args.self.now ≡ true =
    ap (list_any (same_kind k)) (sym c.self.view_is) ∙ any in
    rw listed refl

pub returns : goal.returns
returns c =
    let items = c.self.inside.kinds.items in
    let k = next c.args.version c.args.of in
    let any : list_any (same_kind k) (map kind_of items) ≡ false =
    any_map (same_kind k) kind_of items ∙ sym (rw (c.as_slice.ensures.value) at c.if-has_next.ensures) in
    let more : map kind_of c.push.new.self.items ≡ map kind_of items ++ k ∷ [] =
    ap (map kind_of) c.in_ok-push.ensures.items ∙ map-append kind_of items (Next c.args.version c.args.of ∷ []) in
    let plain : map kind_of c.push.new.self.items ≡ added k (map kind_of items) = rw any more in
    plain ∙ ap (added k) c.self.view_is

pub invariant_of-self-2 : goal.invariant_of-self-2
invariant_of-self-2 c =
    let items = c.self.inside.kinds.items in
    let k = next c.args.version c.args.of in
    let any : list_any (same_kind k) (map kind_of items) ≡ false =
    any_map (same_kind k) kind_of items ∙ sym (rw (c.as_slice.ensures.value) at c.if-has_next.ensures) in
    let more : map kind_of c.push.new.self.items ≡ map kind_of items ++ k ∷ [] =
    ap (map kind_of) c.in_ok-push.ensures.items ∙ map-append kind_of items (Next c.args.version c.args.of ∷ []) in
    subst AreListed (sym more) (next_listed (map kind_of items) c.args.version c.args.of c.self.invariant any)
