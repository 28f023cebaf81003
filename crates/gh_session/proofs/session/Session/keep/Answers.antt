use Rattle.std.proofs.Common.{ap, subst, length, Contains}
use Rattle.gh_session.specs.Fingerprint.{fingerprint}
use Rattle.gh_session.specs.Views.{essence_view}
use Rattle.gh_session.specs.Places.{filed}
use Rattle.gh_session.proofs.Learning.{filed_more}
use Rattle.gh_session.proofs.session.Session.keep.Goals as goal

pub invariant_of-self-2 : goal.invariant_of-self-2
invariant_of-self-2 c =
    let own = fingerprint (essence_view c.args.kept.essence) in
    let here =
    subst (λ q. Contains (filed c.file.new.places q) (length c.as_slice-place.result.now)) c.fingerprint.ensures
    c.in_ok-file.ensures.filed in
    filed_more c.self.inside.kept.items c.args.kept c.push.new.self.items c.self.inside.places c.file.new.places
    c.self.invariant c.in_ok-push.ensures.items c.in_ok-file.ensures.stays
    (subst (λ n. Contains (filed c.file.new.places own) n) (ap length c.as_slice-place.ensures.value) here)
    c.requires.right
