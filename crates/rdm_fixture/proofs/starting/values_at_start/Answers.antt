use Rattle.std.proofs.Common.{inl, inr, sym, codes}
use Rattle.toml.specs.Data.{get_member}
use Rattle.toml.specs.View.{table_view}
use Rattle.rdm_fixture.specs.FirstWrong.{starting_parts}
use Rattle.rdm_fixture.specs.Starting.{IsStarting}
use Rattle.rdm_fixture_keys.specs.Values.{number}
use Rattle.rdm_fixture_keys.specs.Wrong.{FirstWrong}
use Rattle.rdm_fixture_keys.proofs.Parts.{exit, free_right}
use Rattle.rdm_fixture_keys.proofs.Readings.{Reads-err, none_said}
use Rattle.rdm_fixture.proofs.starting.values_at_start.Goals as goal

pub returns-in_err-number_or-clause-wrong : goal.returns-in_err-number_or-clause-wrong
returns-in_err-number_or-clause-wrong c =
    exit (FirstWrong starting_parts (table_view c.args.table.now)) _ _ c.from_residual.ensures.1
    (inl c.in_err-number_or.ensures.wrong)

pub returns-in_err-number_or-2-clause-wrong : goal.returns-in_err-number_or-2-clause-wrong
returns-in_err-number_or-2-clause-wrong c =
    exit (FirstWrong starting_parts (table_view c.args.table.now)) _ _ c.from_residual-in_err-number_or-2.ensures.1
    (inr (free_right 0 (number 0 0xFFFFFFFF) (get_member (codes "device_hours") (table_view c.args.table.now)) _ c.in_ok-number_or.ensures.value, inl c.in_err-number_or-2.ensures.wrong))

pub returns-in_err-number_or-3-clause-wrong : goal.returns-in_err-number_or-3-clause-wrong
returns-in_err-number_or-3-clause-wrong c =
    exit (FirstWrong starting_parts (table_view c.args.table.now)) _ _ c.from_residual-in_err-number_or-3.ensures.1
    (inr (free_right 0 (number 0 0xFFFFFFFF) (get_member (codes "device_hours") (table_view c.args.table.now)) _ c.in_ok-number_or.ensures.value, inr (free_right 0 (number 0 0xFFFFFFFF) (get_member (codes "lamp_hours") (table_view c.args.table.now)) _ c.in_ok-number_or-2.ensures.value, inl c.in_err-number_or-3.ensures.wrong)))

pub returns-in_err-number_or-4-clause-wrong : goal.returns-in_err-number_or-4-clause-wrong
returns-in_err-number_or-4-clause-wrong c =
    exit (FirstWrong starting_parts (table_view c.args.table.now)) _ _ c.from_residual-in_err-number_or-4.ensures.1
    (inr (free_right 0 (number 0 0xFFFFFFFF) (get_member (codes "device_hours") (table_view c.args.table.now)) _ c.in_ok-number_or.ensures.value, inr (free_right 0 (number 0 0xFFFFFFFF) (get_member (codes "lamp_hours") (table_view c.args.table.now)) _ c.in_ok-number_or-2.ensures.value, inr (free_right 0 (number 0 0xFFFFFFFF) (get_member (codes "lamp_strikes") (table_view c.args.table.now)) _ c.in_ok-number_or-3.ensures.value, inl c.in_err-number_or-4.ensures.wrong))))

pub returns-in_err-list-clause-wrong : goal.returns-in_err-list-clause-wrong
returns-in_err-list-clause-wrong c =
    exit (FirstWrong starting_parts (table_view c.args.table.now)) _ _ c.from_residual-in_err-list.ensures.1
    (inr (free_right 0 (number 0 0xFFFFFFFF) (get_member (codes "device_hours") (table_view c.args.table.now)) _ c.in_ok-number_or.ensures.value, inr (free_right 0 (number 0 0xFFFFFFFF) (get_member (codes "lamp_hours") (table_view c.args.table.now)) _ c.in_ok-number_or-2.ensures.value, inr (free_right 0 (number 0 0xFFFFFFFF) (get_member (codes "lamp_strikes") (table_view c.args.table.now)) _ c.in_ok-number_or-3.ensures.value, inr (free_right 0 (number 0 0xFFFFFFFF) (get_member (codes "device_power_cycles") (table_view c.args.table.now)) _ c.in_ok-number_or-4.ensures.value, inl c.in_err-list.ensures.wrong)))))

pub returns-in_err-list-2-clause-wrong : goal.returns-in_err-list-2-clause-wrong
returns-in_err-list-2-clause-wrong c =
    exit (FirstWrong starting_parts (table_view c.args.table.now)) _ _ c.from_residual-in_err-list-2.ensures.1
    (inr (free_right 0 (number 0 0xFFFFFFFF) (get_member (codes "device_hours") (table_view c.args.table.now)) _ c.in_ok-number_or.ensures.value, inr (free_right 0 (number 0 0xFFFFFFFF) (get_member (codes "lamp_hours") (table_view c.args.table.now)) _ c.in_ok-number_or-2.ensures.value, inr (free_right 0 (number 0 0xFFFFFFFF) (get_member (codes "lamp_strikes") (table_view c.args.table.now)) _ c.in_ok-number_or-3.ensures.value, inr (free_right 0 (number 0 0xFFFFFFFF) (get_member (codes "device_power_cycles") (table_view c.args.table.now)) _ c.in_ok-number_or-4.ensures.value, inr ((c.in_ok-list.field-0.items, c.in_ok-list.ensures.read), inl c.in_err-list-2.ensures.wrong))))))

pub returns-in_err-list-3-clause-wrong : goal.returns-in_err-list-3-clause-wrong
returns-in_err-list-3-clause-wrong c =
    exit (FirstWrong starting_parts (table_view c.args.table.now)) _ _ c.from_residual-in_err-list-3.ensures.1
    (inr (free_right 0 (number 0 0xFFFFFFFF) (get_member (codes "device_hours") (table_view c.args.table.now)) _ c.in_ok-number_or.ensures.value, inr (free_right 0 (number 0 0xFFFFFFFF) (get_member (codes "lamp_hours") (table_view c.args.table.now)) _ c.in_ok-number_or-2.ensures.value, inr (free_right 0 (number 0 0xFFFFFFFF) (get_member (codes "lamp_strikes") (table_view c.args.table.now)) _ c.in_ok-number_or-3.ensures.value, inr (free_right 0 (number 0 0xFFFFFFFF) (get_member (codes "device_power_cycles") (table_view c.args.table.now)) _ c.in_ok-number_or-4.ensures.value, inr ((c.in_ok-list.field-0.items, c.in_ok-list.ensures.read), inr ((c.in_ok-list-2.field-0.items, c.in_ok-list-2.ensures.read), inl c.in_err-list-3.ensures.wrong)))))))

pub returns-clause-read : goal.returns-clause-read
returns-clause-read c = record {
  counted = record {
    device_hours = sym c.in_ok-number_or.ensures.value;
    lamp_hours = sym c.in_ok-number_or-2.ensures.value;
    lamp_strikes = sym c.in_ok-number_or-3.ensures.value;
    device_power_cycles = sym c.in_ok-number_or-4.ensures.value;
  };
  presents = c.in_ok-list.ensures.read;
  courses = c.in_ok-list-2.ensures.read;
  notices = c.in_ok-list-3.ensures.read;
}

pub returns-in_err-number_or-clause-read : goal.returns-in_err-number_or-clause-read
returns-in_err-number_or-clause-read c = Reads-err IsStarting _ _ c.from_residual.ensures.0 (λ s h. none_said _ c.in_err-number_or.ensures.value h.counted.device_hours)

pub returns-in_err-number_or-2-clause-read : goal.returns-in_err-number_or-2-clause-read
returns-in_err-number_or-2-clause-read c = Reads-err IsStarting _ _ c.from_residual-in_err-number_or-2.ensures.0 (λ s h. none_said _ c.in_err-number_or-2.ensures.value h.counted.lamp_hours)

pub returns-in_err-number_or-3-clause-read : goal.returns-in_err-number_or-3-clause-read
returns-in_err-number_or-3-clause-read c = Reads-err IsStarting _ _ c.from_residual-in_err-number_or-3.ensures.0 (λ s h. none_said _ c.in_err-number_or-3.ensures.value h.counted.lamp_strikes)

pub returns-in_err-number_or-4-clause-read : goal.returns-in_err-number_or-4-clause-read
returns-in_err-number_or-4-clause-read c = Reads-err IsStarting _ _ c.from_residual-in_err-number_or-4.ensures.0 (λ s h. none_said _ c.in_err-number_or-4.ensures.value h.counted.device_power_cycles)

pub returns-in_err-list-clause-read : goal.returns-in_err-list-clause-read
returns-in_err-list-clause-read c = Reads-err IsStarting _ _ c.from_residual-in_err-list.ensures.0 (λ s h. c.in_err-list.ensures.read s.presents h.presents)

pub returns-in_err-list-2-clause-read : goal.returns-in_err-list-2-clause-read
returns-in_err-list-2-clause-read c = Reads-err IsStarting _ _ c.from_residual-in_err-list-2.ensures.0 (λ s h. c.in_err-list-2.ensures.read s.courses h.courses)

pub returns-in_err-list-3-clause-read : goal.returns-in_err-list-3-clause-read
returns-in_err-list-3-clause-read c = Reads-err IsStarting _ _ c.from_residual-in_err-list-3.ensures.0 (λ s h. c.in_err-list-3.ensures.read s.notices h.notices)
