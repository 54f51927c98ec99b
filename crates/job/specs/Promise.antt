-- What each call for a new job promises. Document 01, "Refusal numbers" and "Zone, requests and jobs".
use Rattle.std.specs.Prelude.{◌≡◌, cond, ℕ, eqb}
use Rattle.octets.specs.Count.{Octets}
use Rattle.dname.specs.declared.name.Name.{Name}
use Rattle.zone.specs.declared.entry.Dhcid.{Dhcid}
use Rattle.zone.specs.declared.entry.Address.{Address}
use Rattle.dname.specs.Name.{name_of, is_full}
use Rattle.update.specs.Meaning.{listed}
use Rattle.job.specs.declared.job.Job.{Job}
use Rattle.job.specs.declared.fresh.NewJob.{NewJob}
use Rattle.job.specs.Meaning.{fresh_add, fresh_remove, blank}

-- A number that is not listed, then a name that is not full.
unfoldable pub new_refusal : Octets → ℕ → ℕ → ℕ
new_refusal name family policy = cond (listed family policy) (cond (is_full name) 0 11) 18

-- The fresh job where nothing is refused, else the blank one.
unfoldable pub new_job : ℕ → Job → NewJob
new_job refusal fresh = record { refusal = refusal; job = cond (eqb refusal 0) fresh blank }

abbrev pub AddPromise : Name → Dhcid → ℕ → Address → ℕ → NewJob → Type 0
AddPromise n d family a policy r = r ≡ new_job (new_refusal (name_of n) family policy) (fresh_add n d family a policy)

abbrev pub RemovePromise : Name → Dhcid → ℕ → Address → NewJob → Type 0
RemovePromise n d family a r = r ≡ new_job (new_refusal (name_of n) family 0) (fresh_remove n d family a)
