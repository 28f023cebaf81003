use Rattle.std.proofs.Common.{ap, subst, None}
use Rattle.std.specs.Prelude.{Contains}
use Rattle.gh_assert.specs.Stores.{listed_names}
use Rattle.gh_draw.specs.Reading.{IsFrontRead, ShowsValue}
use Rattle.gh_draw.proofs.Reader.{store_begin, store_more, store_missing, store_end, names_more, name_is_new}
use Rattle.gh_draw.proofs.reading.read_values.Goals as goal

pub loop-name-init : goal.loop-name-init
loop-name-init c = record {
  goes = store_begin c.args.names.now c.args.cursor.now.text.now c.new-store.result
      c.new-store.ensures;
  listed = ap listed_names c.new-store.ensures;
}

pub returns-in_default : goal.returns-in_default
returns-in_default c =
    store_missing c.args.names.now c.loop-name.name-index c.name-item.result c.loop-name.cursor.text.now
    c.value.new.self.text.now c.args.cursor.now.text.now c.loop-name.store c.name-item.is c.loop-name-test.true
    c.loop-name.invariant.goes
    (subst (λ z. IsFrontRead (ShowsValue z) c.loop-name.cursor.text.now c.value.new.self.text.now None)
    c.bytes.ensures.text (subst
    (λ o. IsFrontRead (ShowsValue c.bytes.result.now) c.loop-name.cursor.text.now c.value.new.self.text.now o)
    c.in_default.is c.value.ensures.read))

pub add-requires : goal.add-requires
add-requires c = record {
  new = λ there. name_is_new c.args.names.now c.loop-name.name-index c.name-item.result
      c.requires c.name-item.is c.loop-name-test.true
      (subst (λ ns. Contains ns c.name-item.result) c.loop-name.invariant.listed there);
}

pub loop-name-preserved : goal.loop-name-preserved
loop-name-preserved c = record {
  goes = store_more c.args.names.now c.loop-name.name-index c.name-item.result c.in-Some.value
      c.loop-name.cursor.text.now c.value.new.self.text.now c.args.cursor.now.text.now c.loop-name.store c.add.new.self
      c.name-item.is c.loop-name-test.true c.loop-name.invariant.goes
      (subst (λ z. ShowsValue z c.loop-name.cursor.text.now c.in-Some.value c.value.new.self.text.now)
      c.bytes.ensures.text c.in-Some.ensures.read) c.in_ok-add.ensures.ok;
  listed =
      names_more c.args.names.now c.loop-name.name-index c.name-item.result c.in-Some.value c.loop-name.store
      c.add.new.self c.name-item.is c.loop-name-test.true c.loop-name.invariant.listed c.in_ok-add.ensures.ok;
}

pub returns : goal.returns
returns c =
    store_end c.args.names.now c.loop-name.name-index c.loop-name.cursor.text.now c.args.cursor.now.text.now
    c.loop-name.store c.loop-name-test.false c.loop-name.invariant.goes
