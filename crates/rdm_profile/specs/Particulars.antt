-- What sets a device apart from one that has the standard's parameters as the table has them.
use Rattle.std.specs.Prelude.{false, [], Option, Some, None}
use Rattle.std.specs.declared.boxed.Box.{Box}
use Rattle.rdm_profile.specs.declared.profile.particulars.Particular.{Particular}
use Rattle.rdm_profile.specs.Estimates.{usual}
use Rattle.rdm_profile.specs.MuteReply.{plain_reply}

-- nothing: no parameters of the maker's own, none left out, the usual estimates, nothing told when it is muted, each message waits, and no
-- personality has slots of its own
abbrev pub usual_particular : Particular
usual_particular = record {
  own = [];
  choices = [];
  locks = [];
  without = record { items = [] };
  more_slots = 0;
  estimates = usual;
  mute_reply = plain_reply;
  newest_only = false;
  modes = [];
}

-- what there is, or nothing
abbrev pub particular_of : {Z : Type 0} → Option (Box Particular Z) → Particular
particular_of None = usual_particular
particular_of (Some particular) = particular.value
