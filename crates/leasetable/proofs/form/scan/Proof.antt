-- `leasetable::form::scan` meets its contract: it is a scan (`ScanWalk.antt`) with the tests `is_off` and `does_want` and the step `with_record`. Assumes nothing.
use mathlib.Core.Path.{refl}
use Rattle.lease.specs.Lease.{no_lease}
use Rattle.leasetable.specs.Folds.{form_off, form_wants, form_add}
use Rattle.lease.specs.contracts.Lease as T
use Rattle.lease.proofs.Lease.TheLaws as T′
use Rattle.leasetable.specs.contracts.form.Form as U
use Rattle.leasetable.proofs.form.Form.TheLaws as U′
use Rattle.leasetable.proofs.ScanWalk as scan
use Rattle.leasetable.proofs.form.is_off.Symbol as o
use Rattle.leasetable.proofs.form.is_off.Met as o′
use Rattle.leasetable.proofs.form.does_want.Symbol as w
use Rattle.leasetable.proofs.form.does_want.Met as w′
use Rattle.leasetable.proofs.form.with_record.Symbol as g
use Rattle.leasetable.proofs.form.with_record.Met as g′
use Rattle.leasetable.specs.contracts.form.scan.Key as f
use Rattle.leasetable.proofs.form.scan.Code as code
use Rattle.leasetable.proofs.form.scan.Statement.{statement}

pub scan_spec : {M : Type 1} → statement M
scan_spec 𝓤 𝓛 𝓜 𝓡 wired =
    scan.meets T.the_type T′.the_laws T′.the_copy T′.the_plain no_lease U.the_type U′.the_laws U′.the_copy U′.the_plain form_off form_wants form_add o.name w.name g.name tt
    𝓛 𝓜 𝓡 𝓡.env f.name (code.unfolded 𝓤 𝓛.H 𝓜 𝓡 wired) refl refl refl
    (o′.met 𝓤 𝓛 𝓜 𝓡 (code.calls-leasetable::form::is_off 𝓡.env wired)) (w′.met 𝓤 𝓛 𝓜 𝓡 (code.calls-leasetable::form::does_want 𝓡.env wired)) (g′.met 𝓤 𝓛 𝓜 𝓡 (code.calls-leasetable::form::with_record 𝓡.env wired))
