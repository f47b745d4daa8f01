-- What is lent is handed on to `free_at`.
use Rattle.rdm_c.proofs.Frees.{frees}
use Rattle.rdm_c.specs.contracts.exports.collector.felosumay_collector_free.Key.{name as #self}
use Rattle.rdm_c.proofs.exports.collector.felosumay_collector_free.Statement.{statement}
use Rattle.rdm_c.proofs.exports.collector.felosumay_collector_free.Code as code

pub felosumay_collector_free_spec : {M : Type 1} → statement M
felosumay_collector_free_spec 𝓤 𝓛 𝓜 𝓡 wired = frees 𝓤 𝓛 𝓜 𝓡 #self (code.unfolded 𝓤 𝓛.H 𝓜 𝓡 wired) (code.calls-rdm_c::keeping::free_at 𝓡.env wired)
