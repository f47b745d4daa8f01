-- What a survey tells of a fixture: what it was asked, one question behind the other, and what its replies tell. E1.20 sections 9 and
-- 10.5.1 to 10.8.1.
use Rattle.std.specs.Prelude.{◌≡◌, ◌⊎◌, ℕ, zero, suc, ◌+◌, ◌<◌, ◌≤◌, Bool, true, false, not, ◌||◌, ◌==◌, if◌then◌else◌, List, [], ◌∷◌, ◌++◌, Option, Some, None}
use Rattle.std.specs.Option.{is_some, option_map, option_map_or, option_to_list}
use Rattle.rdm_collector.specs.declared.reply.Response.{Response}
use Rattle.rdm_collector.specs.declared.reply.Response.TheVariants.{Nack}
use Rattle.rdm_collector.specs.Replies.{Said, reply_in}
use Rattle.rdm_survey.specs.declared.device_info.DeviceInfo.{DeviceInfo}
use Rattle.rdm_survey.specs.declared.row.Row.{Row}
use Rattle.rdm_survey.specs.declared.row.SubDevice.{SubDevice}
use Rattle.rdm_surveyor.specs.declared.reports.Report.{Report}
use Rattle.rdm_surveyor.specs.declared.reports.Statuses.{Statuses}
use Rattle.rdm_surveyor.specs.declared.surveying.Surveyed.{Surveyed}
use Rattle.rdm_surveyor.specs.declared.surveying.Texts.{Texts}
use Rattle.rdm_surveyor.specs.Asking.{Ends, IsAsked, IsTold, of_root, question}
use Rattle.rdm_surveyor.specs.Statuses.{TellsStatus}
use Rattle.rdm_surveyor.specs.Tells.{hours_in, info_in, name_in, personality_of, text_in}

-- ---- the root

-- It was asked what each fixture has to answer, by DEVICE_INFO and MANUFACTURER_LABEL, and told this. Table A-3, sections 10.5.1 and 10.5.4.
pub record TellsFirst {P : Type 0} (hears : P → List ℕ → Option (List ℕ) → P → Type 0) (e : Ends) (before : P) (device : Option DeviceInfo) (maker : Option (List ℕ)) (answers : Bool) (after : P) : Type 0 where
  pub info_reply : Option (List ℕ)
  pub maker_reply : Option (List ℕ)
  pub mid : P
  pub info_asked : IsAsked hears e (of_root 0x0060) before info_reply mid
  pub maker_asked : IsAsked hears e (of_root 0x0081) mid maker_reply after
  pub device_is : device ≡ info_in info_reply
  pub maker_is : maker ≡ text_in maker_reply
  -- it answers, unless it replied to neither
  pub answers_is : answers ≡ is_some info_reply || is_some maker_reply

-- It told what its personality is called, if it has any. DMX_PERSONALITY_DESCRIPTION, section 10.6.2.
abbrev pub TellsName : {P : Type 0} → (P → List ℕ → Option (List ℕ) → P → Type 0) → Ends → Option ℕ → P → Option (List ℕ) → P → Type 0
TellsName hears e None before name after = (name ≡ None) × (after ≡ before)
TellsName hears e (Some number) before name after = IsTold hears e (question 0 0x00E1 (number ∷ [])) (name_in number) before name after

-- It told these texts, and its hours.
pub record TellsTexts {P : Type 0} (hears : P → List ℕ → Option (List ℕ) → P → Type 0) (e : Ends) (device : Option DeviceInfo) (before : P) (texts : Texts) (after : P) : Type 0 where
  pub behind_model : P
  pub behind_label : P
  pub behind_personality : P
  pub behind_software : P
  -- DEVICE_MODEL_DESCRIPTION, section 10.5.3
  pub model : IsTold hears e (of_root 0x0080) text_in before texts.model behind_model
  -- DEVICE_LABEL, section 10.5.5
  pub label : IsTold hears e (of_root 0x0082) text_in behind_model texts.label behind_label
  pub personality : TellsName hears e (personality_of device) behind_label texts.personality behind_personality
  -- SOFTWARE_VERSION_LABEL, section 10.5.9
  pub software : IsTold hears e (of_root 0x00C0) text_in behind_personality texts.software behind_software
  -- DEVICE_HOURS, section 10.8.1
  pub hours : IsTold hears e (of_root 0x0400) hours_in behind_software texts.hours after

-- ---- sub-devices

-- how many sub-devices a root says that it has. Section 10.5.1.
abbrev pub subs_of : Option DeviceInfo → ℕ
subs_of None = 0
subs_of (Some info) = info.sub_devices

abbrev pub sub_with : ℕ → DeviceInfo → SubDevice
sub_with number info = record { number = number; address = info.address; footprint = info.footprint }

-- the sub-device with this number, if its reply to DEVICE_INFO tells of it
abbrev pub sub_in : ℕ → Option (List ℕ) → Option SubDevice
sub_in number reply = option_map (sub_with number) (info_in reply)

-- There is no sub-device with the number that was asked: it is out of range. Table A-17.
abbrev pub says_none : Response → Bool
says_none (Nack reason) = reason == 0x0009
says_none response = false

abbrev pub is_none_there : Option (List ℕ) → Bool
is_none_there None = false
is_none_there (Some reply) = option_map_or (λ (said : Said). says_none said.response) (reply_in reply) false

-- A sub-device was asked for its DEVICE_INFO: what it told stands at the end of a list, and there is one, as far as the fixture says.
pub record TellsNumber {P : Type 0} (hears : P → List ℕ → Option (List ℕ) → P → Type 0) (e : Ends) (number : ℕ) (before : P) (list more : List SubDevice) (is_there : Bool) (after : P) : Type 0 where
  pub reply : Option (List ℕ)
  pub asked : IsAsked hears e (question number 0x0060 []) before reply after
  pub told : more ≡ list ++ option_to_list (sub_in number reply)
  pub there_is : is_there ≡ not (is_none_there reply)

-- What came of the sub-devices that were asked so far: those that told of themselves, in order, and how many are there.
pub record Found : Type 0 where
  pub told : List SubDevice
  pub there : ℕ

abbrev pub none_found : Found
none_found = record { told = []; there = 0 }

-- One more was asked, since fewer are there than the root says.
pub record IsNextFound {P : Type 0} (hears : P → List ℕ → Option (List ℕ) → P → Type 0) (e : Ends) (count number : ℕ) (less : Found) (before : P) (found : Found) (after : P) : Type 0 where
  pub is_there : Bool
  pub tells : TellsNumber hears e number before less.told found.told is_there after
  pub fewer : less.there < count
  pub there : found.there ≡ less.there + (if is_there then 1 else 0)

-- The sub-devices from 1 to N were asked, one behind the other, and this came of it.
abbrev pub AreFound : {P : Type 0} → (P → List ℕ → Option (List ℕ) → P → Type 0) → Ends → (count : ℕ) → ℕ → P → Found → P → Type 0
AreFound hears e count zero before found after = (found ≡ none_found) × (after ≡ before)
AreFound {P} hears e count (suc n) before found after =
    (less : Found) × (mid : P) × AreFound hears e count n before less mid × IsNextFound hears e count (suc n) less mid found after

-- The sub-devices told this: they were asked from 1 up to where as many as the root says were there, or to 512. The numbers may have
-- gaps. Section 9.
pub record TellSubs {P : Type 0} (hears : P → List ℕ → Option (List ℕ) → P → Type 0) (e : Ends) (count : ℕ) (before : P) (subs : List SubDevice) (after : P) : Type 0 where
  pub number : ℕ
  pub found : Found
  pub asked : AreFound hears e count number before found after
  pub over : (found.there ≡ count) ⊎ (number ≡ 512)
  pub within : number ≤ 512
  pub subs_are : subs ≡ found.told

-- ---- the whole

-- Nothing but the first two questions was asked.
pub record IsUntold (row : Row) : Type 0 where
  pub model : row.model ≡ None
  pub label : row.label ≡ None
  pub personality : row.personality ≡ None
  pub software : row.software ≡ None
  pub hours : row.hours ≡ None
  pub status : row.status ≡ None
  pub sub_devices : row.sub_devices.items ≡ []

abbrev pub texts_of : Row → Texts
texts_of row = record {
  model = row.model;
  label = row.label;
  personality = row.personality;
  software = row.software;
  hours = row.hours;
}

abbrev pub statuses_of : Surveyed → Statuses
statuses_of s = record { counts = s.row.status; has_more = s.has_more }

-- It told its texts, its status and its sub-devices.
pub record TellsMore {P : Type 0} (hears : P → List ℕ → Option (List ℕ) → P → Type 0) (e : Ends) (before : P) (list : List Report) (s : Surveyed) (more : List Report) (after : P) : Type 0 where
  pub behind_texts : P
  pub behind_status : P
  pub texts : TellsTexts hears e s.row.device before (texts_of s.row) behind_texts
  pub status : TellsStatus hears e behind_texts list (statuses_of s) more behind_status
  pub sub_devices : TellSubs hears e (subs_of s.row.device) behind_status s.row.sub_devices.items after

-- One that answered neither of the first two questions isn't asked for more.
pub record TellsNoMore {P : Type 0} (before : P) (list : List Report) (s : Surveyed) (more : List Report) (after : P) : Type 0 where
  pub untold : IsUntold s.row
  pub has_more : s.has_more ≡ false
  pub same_reports : more ≡ list
  pub same_port : after ≡ before

abbrev pub TellsRest : {P : Type 0} → (P → List ℕ → Option (List ℕ) → P → Type 0) → Ends → Bool → P → List Report → Surveyed → List Report → P → Type 0
TellsRest hears e false before list s more after = TellsNoMore before list s more after
TellsRest hears e true before list s more after = TellsMore hears e before list s more after

-- The fixture told this row in a run from this state of the port to that; and the replies that tell of its status stand at the end of a
-- list.
pub record TellsRow {P : Type 0} (hears : P → List ℕ → Option (List ℕ) → P → Type 0) (e : Ends) (before : P) (list : List Report) (s : Surveyed) (more : List Report) (after : P) : Type 0 where
  pub behind_first : P
  pub answers : Bool
  pub uid : s.row.uid ≡ e.fixture
  pub first : TellsFirst hears e before s.row.device s.row.manufacturer answers behind_first
  pub rest : TellsRest hears e answers behind_first list s more after
