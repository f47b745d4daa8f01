-- `==` of refusals.
use Rattle.std.proofs.Common.{◌≡◌, ◌==◌, ℕ, Option, Some, None, refl, ap}
use Rattle.std.specs.Bool.{Decides}
use Rattle.std.specs.Option.{option_eq}
use Rattle.std.proofs.lemmas.Bool.Decides.{Decides-and, Decides-like, Decides-eqb}
use Rattle.std.proofs.lemmas.Option.{same_Some}
use Rattle.std.proofs.lemmas.Slice.Eq.{slice_eq-Decides}
use Rattle.rdm_fixture_keys.specs.declared.refusal.Entry.{Entry}
use Rattle.rdm_fixture_keys.specs.declared.refusal.Refusal.{Refusal}
use Rattle.rdm_fixture_keys.specs.declared.refusal.Section.{Section}
use Rattle.rdm_fixture_keys.specs.declared.refusal.Wanted.{Wanted}
use Rattle.rdm_fixture_keys.specs.contracts.refusal.EntryPartialEq.TheImpl as entries
use Rattle.rdm_fixture_keys.specs.contracts.refusal.RefusalPartialEq.TheImpl as refusals
use Rattle.rdm_fixture_keys.specs.contracts.refusal.SectionPartialEq.TheImpl as sections
use Rattle.rdm_fixture_keys.specs.contracts.refusal.WantedPartialEq.TheImpl as wanteds
use Rattle.rdm_fixture_keys.specs.Refusals.{IsSameEntry, IsSamePlace, IsSameRefusal}

pub entry_decides : (a b : Entry) → Decides (entries.ghosts.eq a b) (IsSameEntry a b)
entry_decides a b =
    Decides-and _ _ (slice_eq-Decides Decides-eqb a.list.bytes b.list.bytes _ refl) (Decides-eqb a.number b.number)

place_decides : ((a b : Entry) → Decides (entries.ghosts.eq a b) (IsSameEntry a b)) → (a b : Option Entry) → Decides (option_eq entries.ghosts.eq a b) (IsSamePlace a b)
place_decides entry None None = (λ _. tt, λ _. refl)
place_decides entry None (Some b) = (λ e. absurd cc, λ e. absurd e)
place_decides entry (Some a) None = (λ e. absurd cc, λ e. absurd e)
place_decides entry (Some a) (Some b) = entry a b

line_decides : (a b : Option ℕ) → Decides (option_eq (λ x y. x == y) a b) (a ≡ b)
line_decides None None = (λ _. refl, λ _. refl)
line_decides None (Some b) = (λ e. absurd cc, λ e. absurd cc)
line_decides (Some a) None = (λ e. absurd cc, λ e. absurd cc)
line_decides (Some a) (Some b) = Decides-like _ (ap Some) (same_Some _ _) (Decides-eqb a b)

pub refusal_decides : ((a b : Section) → Decides (sections.ghosts.eq a b) (a ≡ b)) → ((a b : Entry) → Decides (entries.ghosts.eq a b) (IsSameEntry a b)) → ((a b : Wanted) → Decides (wanteds.ghosts.eq a b) (a ≡ b))
    → (a b : Refusal) → Decides (refusals.ghosts.eq a b) (IsSameRefusal a b)
refusal_decides section entry wanted a b =
    Decides-like _ (λ e. record { section = e.0; entry = e.1.0; key = e.1.1.0; wanted = e.1.1.1.0; line = e.1.1.1.1 })
    (λ e. (e.section, (e.entry, (e.key, (e.wanted, e.line)))))
    (Decides-and _ _ (section a.section b.section) (Decides-and _ _ (place_decides entry a.entry b.entry) (Decides-and _ _ (slice_eq-Decides Decides-eqb a.key.bytes b.key.bytes _ refl) (Decides-and _ _ (wanted a.wanted b.wanted) (line_decides a.line b.line)))))
