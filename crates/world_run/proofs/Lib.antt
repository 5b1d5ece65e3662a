pub mod LeftLaws
pub mod HalfLaws
pub mod SidesLaws
pub mod ProgressLaws
pub mod EventLaws
pub mod SlaveEventLaws
pub mod OpenLaws
pub mod FreshLaws
