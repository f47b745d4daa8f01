-- The PIDs and the names of the parameters. E1.20 table A-3.
use Rattle.std.specs.Prelude.{ℕ, ◌==◌, List, [], ◌∷◌, ◌++◌, Option, find, codes}
use Rattle.std.specs.Str.{bytes_eq}
use Rattle.rdm_table.specs.declared.kind.Kind.{Kind}
use Rattle.rdm_table.specs.declared.kind.Kind.TheVariants.{QueuedMessage, StatusMessages, StatusIdDescription, ClearStatusId, SubDeviceStatusReportThreshold, SupportedParameters, DeviceInfo, DeviceModelDescription, ManufacturerLabel, DeviceLabel, FactoryDefaults, LanguageCapabilities, Language, SoftwareVersionLabel, BootSoftwareVersionId, BootSoftwareVersionLabel, DmxPersonality, DmxPersonalityDescription, DmxStartAddress, SlotInfo, SlotDescription, DefaultSlotValue, SensorDefinition, SensorValue, RecordSensors, DeviceHours, LampHours, LampStrikes, LampState, LampOnMode, DevicePowerCycles, DisplayInvert, DisplayLevel, PanInvert, TiltInvert, PanTiltSwap, IdentifyDevice, PowerState, PerformSelfTest, SelfTestDescription, PresetPlayback}

-- the PID of each parameter, and its name in the standard
abbrev pub pid_and_name : Kind → ℕ × List ℕ
pid_and_name QueuedMessage = (0x0020, codes "QUEUED_MESSAGE")
pid_and_name StatusMessages = (0x0030, codes "STATUS_MESSAGES")
pid_and_name StatusIdDescription = (0x0031, codes "STATUS_ID_DESCRIPTION")
pid_and_name ClearStatusId = (0x0032, codes "CLEAR_STATUS_ID")
pid_and_name SubDeviceStatusReportThreshold = (0x0033, codes "SUB_DEVICE_STATUS_REPORT_THRESHOLD")
pid_and_name SupportedParameters = (0x0050, codes "SUPPORTED_PARAMETERS")
pid_and_name DeviceInfo = (0x0060, codes "DEVICE_INFO")
pid_and_name DeviceModelDescription = (0x0080, codes "DEVICE_MODEL_DESCRIPTION")
pid_and_name ManufacturerLabel = (0x0081, codes "MANUFACTURER_LABEL")
pid_and_name DeviceLabel = (0x0082, codes "DEVICE_LABEL")
pid_and_name FactoryDefaults = (0x0090, codes "FACTORY_DEFAULTS")
pid_and_name LanguageCapabilities = (0x00A0, codes "LANGUAGE_CAPABILITIES")
pid_and_name Language = (0x00B0, codes "LANGUAGE")
pid_and_name SoftwareVersionLabel = (0x00C0, codes "SOFTWARE_VERSION_LABEL")
pid_and_name BootSoftwareVersionId = (0x00C1, codes "BOOT_SOFTWARE_VERSION_ID")
pid_and_name BootSoftwareVersionLabel = (0x00C2, codes "BOOT_SOFTWARE_VERSION_LABEL")
pid_and_name DmxPersonality = (0x00E0, codes "DMX_PERSONALITY")
pid_and_name DmxPersonalityDescription = (0x00E1, codes "DMX_PERSONALITY_DESCRIPTION")
pid_and_name DmxStartAddress = (0x00F0, codes "DMX_START_ADDRESS")
pid_and_name SlotInfo = (0x0120, codes "SLOT_INFO")
pid_and_name SlotDescription = (0x0121, codes "SLOT_DESCRIPTION")
pid_and_name DefaultSlotValue = (0x0122, codes "DEFAULT_SLOT_VALUE")
pid_and_name SensorDefinition = (0x0200, codes "SENSOR_DEFINITION")
pid_and_name SensorValue = (0x0201, codes "SENSOR_VALUE")
pid_and_name RecordSensors = (0x0202, codes "RECORD_SENSORS")
pid_and_name DeviceHours = (0x0400, codes "DEVICE_HOURS")
pid_and_name LampHours = (0x0401, codes "LAMP_HOURS")
pid_and_name LampStrikes = (0x0402, codes "LAMP_STRIKES")
pid_and_name LampState = (0x0403, codes "LAMP_STATE")
pid_and_name LampOnMode = (0x0404, codes "LAMP_ON_MODE")
pid_and_name DevicePowerCycles = (0x0405, codes "DEVICE_POWER_CYCLES")
pid_and_name DisplayInvert = (0x0500, codes "DISPLAY_INVERT")
pid_and_name DisplayLevel = (0x0501, codes "DISPLAY_LEVEL")
pid_and_name PanInvert = (0x0600, codes "PAN_INVERT")
pid_and_name TiltInvert = (0x0601, codes "TILT_INVERT")
pid_and_name PanTiltSwap = (0x0602, codes "PAN_TILT_SWAP")
pid_and_name IdentifyDevice = (0x1000, codes "IDENTIFY_DEVICE")
pid_and_name PowerState = (0x1010, codes "POWER_STATE")
pid_and_name PerformSelfTest = (0x1020, codes "PERFORM_SELFTEST")
pid_and_name SelfTestDescription = (0x1021, codes "SELF_TEST_DESCRIPTION")
pid_and_name PresetPlayback = (0x1031, codes "PRESET_PLAYBACK")

-- the PID
abbrev pub pid_of : Kind → ℕ
pid_of kind = (pid_and_name kind).0

-- the name in the standard
abbrev pub name_of : Kind → List ℕ
name_of kind = (pid_and_name kind).1

-- every parameter, in the order of the PIDs
abbrev pub kinds : List Kind
kinds =
    QueuedMessage ∷ StatusMessages ∷ StatusIdDescription ∷ ClearStatusId ∷ SubDeviceStatusReportThreshold ∷
    SupportedParameters ∷ DeviceInfo ∷ DeviceModelDescription ∷ ManufacturerLabel ∷ DeviceLabel ∷ FactoryDefaults ∷ LanguageCapabilities ∷
    Language ∷ SoftwareVersionLabel ∷ BootSoftwareVersionId ∷ BootSoftwareVersionLabel ∷
    DmxPersonality ∷ DmxPersonalityDescription ∷ DmxStartAddress ∷ SlotInfo ∷ SlotDescription ∷ DefaultSlotValue ∷
    SensorDefinition ∷ SensorValue ∷ RecordSensors ∷
    DeviceHours ∷ LampHours ∷ LampStrikes ∷ LampState ∷ LampOnMode ∷ DevicePowerCycles ∷
    DisplayInvert ∷ DisplayLevel ∷ PanInvert ∷ TiltInvert ∷ PanTiltSwap ∷
    IdentifyDevice ∷ PowerState ∷ PerformSelfTest ∷ SelfTestDescription ∷ PresetPlayback ∷ []

-- the parameter with this name in the standard
unfoldable pub kind_named : List ℕ → Option Kind
kind_named name = find (λ kind. bytes_eq (name_of kind) name) kinds

-- the parameter with this PID
unfoldable pub kind_with : ℕ → Option Kind
kind_with pid = find (λ kind. pid == pid_of kind) kinds
