-- Not to audit: private contracts alone cite this.
-- The states as data whose equality is decided.
use Rattle.std.specs.Prelude.{ℕ, List, refl}
use Rattle.std.specs.Coded.{Coded, code_by, coded×, coded_list, coded_ℕ}
use Rattle.std.specs.FinSet as set
use Rattle.rv_plic.specs.Sources.{Sources}
use Rattle.rv_plic.specs.Gateways.{PlicState}
use Rattle.rv_plic.specs.Support.GatewayState.{GatewayState, gateways_of}

abbrev pub sources_code : Coded Sources
sources_code = set.code coded_ℕ

abbrev pub gateway_code : Coded GatewayState
gateway_code =
    code_by ((Sources × Sources) × List ℕ) (coded× (coded× sources_code sources_code) (coded_list coded_ℕ))
    (λ g. ((g.high, g.outstanding), g.edges))
    (λ p. record { high = p.0.0; outstanding = p.0.1; edges = p.1 })
    (λ _. refl)

abbrev pub plic_code : Coded PlicState
plic_code =
    code_by (GatewayState × ((Sources × Sources) × (List ℕ × ℕ)))
    (coded× gateway_code (coded× (coded× sources_code sources_code) (coded× (coded_list coded_ℕ) coded_ℕ)))
    (λ p. (gateways_of p, ((p.pending, p.enabled), (p.priorities, p.threshold))))
    (λ t. record {
      high = t.0.high;
      edges = t.0.edges;
      outstanding = t.0.outstanding;
      pending = t.1.0.0;
      enabled = t.1.0.1;
      priorities = t.1.1.0;
      threshold = t.1.1.1;
    })
    (λ _. refl)
