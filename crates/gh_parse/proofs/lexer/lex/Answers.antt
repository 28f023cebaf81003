use Rattle.std.proofs.Common.{◌≡◌, ◌++◌, sym, ◌∙◌, subst, ap, arith}
use Rattle.gh_ast.specs.Tokens.{cleared, first_place, IsTokens, nothing}
use Rattle.gh_parse.specs.Views.{tokens_of}
use Rattle.gh_parse.specs.Lexing.{tokens_at}
use Rattle.gh_parse.proofs.Lexing.{IsStep, step_on, tokens_push, nothing_more, none_left}
use Rattle.gh_parse.proofs.lexer.lex.Goals as goal
use Rattle.gh_parse.proofs.lexer.lex.Goals.{in-Some-symbol+in_ok-push, in_default-symbol}

pub loop-piece-init : goal.loop-piece-init
loop-piece-init c =
    record {
      tokens = subst (λ ts. IsTokens first_place (cleared c.args.text.now) (tokens_of ts) first_place
          (cleared c.args.text.now)) (sym c.new-tokens.ensures.items) nothing;
      line = omega arith;
      col = omega arith;
    }

pub loop-piece-preserved : goal.loop-piece-preserved
loop-piece-preserved c =
    let i = c.loop-piece.invariant in
    let old = c.loop-piece.tokens.items in
    let p = c.loop-piece.place in
    let next = c.in-Some.piece in
    let e : tokens_of c.match-piece.tokens.items ≡ tokens_of old ++ tokens_at next.symbol p =
    elim c.match-piece.branch [
      | in-Some-symbol+in_ok-push w ↦
          ap (λ v. tokens_of v.items) w.tokens-is ∙ ap tokens_of w.in_ok-push.ensures.items
          ∙ tokens_push old (record { symbol = w.in-Some-symbol.symbol; span = p })
          ∙ ap (λ s. tokens_of old ++ tokens_at s p) (sym w.in-Some-symbol.is)
      | in_default-symbol w ↦
          ap (λ v. tokens_of v.items) w.tokens-is ∙ nothing_more (tokens_of old)
          ∙ ap (λ s. tokens_of old ++ tokens_at s p) (sym w.in_default-symbol.is)
    ] in
    let s : IsStep c.args.text.now (tokens_of old) p c.loop-piece.rest.now =
    record { tokens = i.tokens; line = i.line; col = i.col } in
    let r =
    step_on c.args.text.now (tokens_of old) (tokens_of c.match-piece.tokens.items) p c.after-place.result
    c.loop-piece.rest.now c.split_at.result.0.now
    c.split_at.result.1.now next s c.in-Some.ensures e c.split_at.ensures.front c.split_at.ensures.back
    c.after-place.ensures in
    record { tokens = r.tokens; line = r.line; col = r.col }

pub returns : goal.returns
returns c =
    record {
      rest = cleared c.loop-piece.rest.now;
      front = c.loop-piece.invariant.tokens;
      stuck = c.in_default.ensures;
      all = none_left c.loop-piece.rest.now c.is_empty.result c.is_empty.ensures;
    }
