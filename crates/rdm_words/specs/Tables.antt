-- What the tables of the standard say of a number.
use Rattle.std.specs.Prelude.{ℕ, ◌==◌, ◌/◌, List, [], ◌∷◌, Option, None, codes, if◌then◌else◌}
use Rattle.std.specs.Option.{option_or}
use Rattle.rdm_frame.specs.Nacks.{reason_name}
use Rattle.rdm_frame.specs.Names.{name_in}
use Rattle.rdm_params.specs.Table.Names.{parameter_name}

-- the parameters of E1.37-2
abbrev pub network_names : List (ℕ × List ℕ)
network_names =
    (0x0700, codes "LIST_INTERFACES") ∷
    (0x0701, codes "INTERFACE_LABEL") ∷
    (0x0702, codes "INTERFACE_HARDWARE_ADDRESS_TYPE1") ∷
    (0x0703, codes "IPV4_DHCP_MODE") ∷
    (0x0704, codes "IPV4_ZEROCONF_MODE") ∷
    (0x0705, codes "IPV4_CURRENT_ADDRESS") ∷
    (0x0706, codes "IPV4_STATIC_ADDRESS") ∷
    (0x0707, codes "INTERFACE_RENEW_DHCP") ∷
    (0x0708, codes "INTERFACE_RELEASE_DHCP") ∷
    (0x0709, codes "INTERFACE_APPLY_CONFIGURATION") ∷
    (0x070A, codes "IPV4_DEFAULT_ROUTE") ∷
    (0x070B, codes "DNS_IPV4_NAME_SERVER") ∷
    (0x070C, codes "DNS_HOSTNAME") ∷
    (0x070D, codes "DNS_DOMAIN_NAME") ∷ []

-- the parameters of E1.33
abbrev pub broker_names : List (ℕ × List ℕ)
broker_names =
    (0x0800, codes "COMPONENT_SCOPE") ∷
    (0x0801, codes "SEARCH_DOMAIN") ∷
    (0x0802, codes "TCP_COMMS_STATUS") ∷
    (0x0803, codes "BROKER_STATUS") ∷ []

-- the parameters of E1.37-7
abbrev pub endpoint_names : List (ℕ × List ℕ)
endpoint_names =
    (0x0900, codes "ENDPOINT_LIST") ∷
    (0x0901, codes "ENDPOINT_LIST_CHANGE") ∷
    (0x0902, codes "IDENTIFY_ENDPOINT") ∷
    (0x0903, codes "ENDPOINT_TO_UNIVERSE") ∷
    (0x0904, codes "ENDPOINT_MODE") ∷
    (0x0905, codes "ENDPOINT_LABEL") ∷
    (0x0906, codes "RDM_TRAFFIC_ENABLE") ∷
    (0x0907, codes "DISCOVERY_STATE") ∷
    (0x0908, codes "BACKGROUND_DISCOVERY") ∷
    (0x0909, codes "ENDPOINT_TIMING") ∷
    (0x090A, codes "ENDPOINT_TIMING_DESCRIPTION") ∷
    (0x090B, codes "ENDPOINT_RESPONDERS") ∷
    (0x090C, codes "ENDPOINT_RESPONDER_LIST_CHANGE") ∷
    (0x090D, codes "BINDING_CONTROL_FIELDS") ∷
    (0x090E, codes "BACKGROUND_QUEUED_STATUS_POLICY") ∷
    (0x090F, codes "BACKGROUND_QUEUED_STATUS_POLICY_DESCRIPTION") ∷ []

-- a parameter of these, by the upper byte of its PID
abbrev pub later_name : ℕ → Option (List ℕ)
later_name pid =
    if pid / 256 == 0x07 then name_in network_names pid else
    if pid / 256 == 0x08 then name_in broker_names pid else
    if pid / 256 == 0x09 then name_in endpoint_names pid else None

-- a parameter, by E1.20 table A-3, E1.37-1 or one of the later standards
unfoldable pub standard_name : ℕ → Option (List ℕ)
standard_name pid = option_or (parameter_name pid) (later_name pid)

-- the reasons of the later standards
abbrev pub later_reasons : List (ℕ × List ℕ)
later_reasons =
    (0x000B, codes "action not supported") ∷
    (0x000C, codes "endpoint number invalid") ∷
    (0x000D, codes "invalid endpoint mode") ∷
    (0x000E, codes "unknown UID") ∷
    (0x000F, codes "unknown scope") ∷
    (0x0010, codes "invalid static config type") ∷
    (0x0011, codes "invalid IPv4 address") ∷
    (0x0012, codes "invalid IPv6 address") ∷
    (0x0013, codes "invalid port") ∷ []

-- why a request isn't done, by E1.20 table A-17 or one of the later standards
unfoldable pub nack_reason : ℕ → Option (List ℕ)
nack_reason code = option_or (reason_name code) (name_in later_reasons code)

-- the response types of E1.20 table A-2
abbrev pub reply_type_names : List (ℕ × List ℕ)
reply_type_names =
    (0x00, codes "ACK") ∷
    (0x01, codes "ACK_TIMER") ∷
    (0x02, codes "NACK_REASON") ∷
    (0x03, codes "ACK_OVERFLOW") ∷ []

abbrev pub reply_type_name : ℕ → Option (List ℕ)
reply_type_name code = name_in reply_type_names code
