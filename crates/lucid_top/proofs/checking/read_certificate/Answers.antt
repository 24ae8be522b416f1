use Rattle.lucid_top.proofs.Common.{◌+◌, List, ℕ, subst, IfOk-weaker, IfErr-weaker, err_from_is_err_and, file, IsRefusalOf, IsSourceStop, HoldsCertificate, HeldCertificate, RefusesCertificate, most_certificate_bytes}
use Rattle.clap.proofs.BuiltLemmas.{on_ok_always}
use Rattle.lucid_top.proofs.Sources.{held_by, certificate_stop, read_stops}
use Rattle.lucid_top.proofs.Doing.{has_reached, reaching_stopped}
use Rattle.lucid_top.proofs.checking.read_certificate.Goals as goal

pub returns-in_err-bytes-clause-stopped : goal.returns-in_err-bytes-clause-stopped
returns-in_err-bytes-clause-stopped g c =
    let p = err_from_is_err_and c.from_residual.result c.from_residual.ensures.1 in
    rw (p.1, p.2) (read_stops RefusesCertificate (file c.args.name.now) (g.P.Places.world c.args.places.now)
    (g.P.Places.world c.read_certificate_file.new.places) c.in_err-bytes.field-0.0 c.in_err-bytes.ensures.stopped)

pub returns-in_err-bytes-clause-reading : goal.returns-in_err-bytes-clause-reading
returns-in_err-bytes-clause-reading g c =
    let p = err_from_is_err_and c.from_residual.result c.from_residual.ensures.1 in
    rw (p.1, p.2) (reaching_stopped c.in_err-bytes.field-0.0 (most_certificate_bytes + 1) (g.P.Places.world c.args.places.now)
    (g.P.Places.world c.read_certificate_file.new.places) c.in_err-bytes.ensures.reading)

pub returns-clause-held : goal.returns-clause-held
returns-clause-held g c =
    IfOk-weaker c.judge_certificate.result (HoldsCertificate c.deref.result.now) (HeldCertificate c.args.name.now (g.P.Places.world c.args.places.now))
    (λ why holds. held_by c.args.name.now (g.P.Places.world c.args.places.now) c.in_ok-bytes.bytes.items why c.in_ok-bytes.ensures.bytes
    (subst (λ (bytes : List ℕ). HoldsCertificate bytes why) c.deref.ensures.value holds))
    c.judge_certificate.ensures.holds

pub returns-clause-stopped : goal.returns-clause-stopped
returns-clause-stopped g c =
    IfErr-weaker c.judge_certificate.result (IsRefusalOf (RefusesCertificate c.deref.result.now))
    (IsSourceStop RefusesCertificate (file c.args.name.now) (g.P.Places.world c.args.places.now) (g.P.Places.world c.read_certificate_file.new.places))
    (λ s refused. certificate_stop c.args.name.now (g.P.Places.world c.args.places.now) (g.P.Places.world c.read_certificate_file.new.places)
    c.in_ok-bytes.bytes.items s
    c.in_ok-bytes.ensures.bytes (subst (λ (bytes : List ℕ). IsRefusalOf (RefusesCertificate bytes) s) c.deref.ensures.value refused))
    c.judge_certificate.ensures.refused

pub returns-clause-reading : goal.returns-clause-reading
returns-clause-reading g c = has_reached c.in_ok-bytes.bytes (most_certificate_bytes + 1) (g.P.Places.world c.args.places.now)
    (g.P.Places.world c.read_certificate_file.new.places) c.judge_certificate.result c.in_ok-bytes.ensures.reading

pub returns-clause-asked : goal.returns-clause-asked
returns-clause-asked g c = on_ok_always c.judge_certificate.result c.in_ok-bytes.ensures.asked
